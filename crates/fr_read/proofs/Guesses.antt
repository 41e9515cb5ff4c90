-- The guess of a spelled phrase is its number: the law on which all of reading rests.
-- Assumes nothing.
use Prim.Native.Nat.{ℕ, zero, suc, ◌+◌, ◌*◌, ◌/◌, ◌%◌, ◌^◌, ◌<◌, ◌≤◌}
use mathlib.Core.Path.{◌≡◌, refl, sym, ap, ◌∙◌}
use mathlib.Core.Bool.{Bool, true, false, cond}
use mathlib.Core.List.{List, [], ◌∷◌, ◌++◌, append-nil}
use native.Mathlib.Nat.{pow-succ', one-le-pow, mod-one, mod-lt, mod-eq_of_lt}
use native.Mathlib.Omega.{arith}
use borrow.Author.Tests.{eqb-true}
use lib.Arith.{mod-mul}
use lib.Dec.{eqb}
use lib.ListN.{length}
use Rattle.base.specs.Signs.{space, hyphen}
use Rattle.settings.specs.Settings.{french_ranges, Within}
use Rattle.settings.specs.Settings.{Settings}
use Rattle.figures.specs.Groups.{total}
use Rattle.cardinals.specs.Cardinal.{group_at, group_of, groups_below, cardinal_words, cardinal_phrase}
use Rattle.tokens.specs.Tokens.{is_gap}
use Rattle.fr.specs.Rules.{is_reformed, french_joiner, french_group, french}
use Rattle.fr.specs.Ordinal.{nth_of, nth_phrase}
use Rattle.fr_read.specs.Reading.{meanings, Group, guess, seems, groups_read, is_minus, behind_minus, guessed}
use Rattle.fr_read.proofs.Splits.{sense, sense_append, Sounds, sounds_append, sounds_closed, meanings_joined, meanings_nth}
use Rattle.fr_read.proofs.Known.{zero_known, moins_means, premier_means}
use Rattle.fr_read.proofs.Below.{zeros, reads_here, reads_over, one_below}
use Rattle.fr_read.proofs.Bounds.{reads_length}
use Rattle.fr_read.proofs.Seeming.{group_sounds, lowest_seems, group_seems}

joiner_gap : (S : Settings) → is_gap (french_joiner S) ≡ true
joiner_gap S = go (is_reformed S)
  where
    go : (t : Bool) → is_gap (cond t hyphen space) ≡ true
    go true = refl
    go false = refl

-- a number with one group more
total_more : (gs : List ℕ) (x : ℕ) → total (gs ++ (x ∷ [])) ≡ total gs + x * 1000 ^ length gs
total_more [] x = omega arith
total_more (g ∷ gs) x = rw (total_more gs x, pow-succ' 1000 (length gs)) (omega arith)

-- a lowest group alone
first_alone : (v : ℕ) (g : Group) → total (groups_read 0 g ++ (v ∷ zeros 33)) ≡ v
unfolding groups_read
first_alone v g = omega arith

lone : (v : ℕ) → total (groups_read 34 (guess v 0 [])) ≡ v
lone v = ap total (one_below v 0 33 []) ∙ first_alone v (seems 0 0 [])

none_guess : total (guessed (0 ∷ [])) ≡ 0
unfolding guessed seems
none_guess = lone 0

one_guess : total (guessed (1 ∷ [])) ≡ 1
unfolding guessed seems
one_guess = lone 1

not_minus : (ms : List ℕ) → (seems 0 0 ms).order < 34 → is_minus ms ≡ false
unfolding seems
not_minus [] h = refl
not_minus (m ∷ ms) h = go (eqb m 2001) refl h
  where
    go : (t : Bool) → eqb m 2001 ≡ t → (seems 0 0 (m ∷ ms)).order < 34 → t ≡ false
    go true e h = let q : (seems 0 0 (2001 ∷ ms)).order < 34 = rw (eqb-true m 2001 e) at h in absurd (omega (arith, q))
    go false e h = refl

module _ (S : Settings) (v : Within (french_ranges S)) where
  module _ (n : ℕ) where
    abbrev below : ℕ → List ℕ
    below k = sense (groups_below (french S) k n)

    small : (k : ℕ) → group_at k n < 1000
    small k = mod-lt (n / 1000 ^ k) {m = 1000} (omega arith)

    -- an order without a group, and one with its group
    below_none : (k : ℕ) → group_at k n ≡ 0 → below (suc k) ≡ below k
    unfolding groups_below
    below_none k e = rw e refl

    below_some : (k : ℕ) → 0 < group_at k n → below (suc k) ≡ sense (french_group S k (group_at k n)) ++ below k
    unfolding groups_below french
    below_some k h = go (group_at k n) h
      where
        go : (g : ℕ) → 0 < g → sense (group_of (french S) k g ++ groups_below (french S) k n) ≡ sense (french_group S k g) ++ below k
        go zero h = absurd (omega arith)
        go (suc g) h = sense_append (french_group S k (suc g)) (groups_below (french S) k n)

    -- the group at the front of the words below an order
    front_none : (k : ℕ) → group_at k n ≡ 0 → seems 0 0 (below (suc k)) ≡ seems 0 0 (below k)
    front_none k e = ap (seems 0 0) (below_none k e)

    front_lowest : 0 < group_at 0 n → seems 0 0 (below 1) ≡ guess (group_at 0 n) 0 []
    unfolding groups_below
    front_lowest h = ap (seems 0 0) (below_some 0 h ∙ append-nil (sense (french_group S 0 (group_at 0 n)))) ∙ lowest_seems S v (group_at 0 n) (small 0)

    front_some : (k : ℕ) → 0 < k → k < 34 → 0 < group_at k n → seems 0 0 (below (suc k)) ≡ guess (group_at k n) k (below k)
    front_some k a b h = ap (seems 0 0) (below_some k h) ∙ group_seems S v k (group_at k n) (below k) a b h (small k)

    order_below : (k : ℕ) → suc k ≤ 34 → (seems 0 0 (below (suc k))).order < suc k
    unfolding groups_below seems
    order_below zero l = go (group_at 0 n) refl
      where
        go : (g : ℕ) → group_at 0 n ≡ g → (seems 0 0 (below 1)).order < 1
        go zero e = rw (front_none 0 e) (omega arith)
        go (suc g) e = rw (front_lowest (omega (arith, e))) (omega arith)
    order_below (suc k) l = go (group_at (suc k) n) refl (order_below k (omega arith))
      where
        go : (g : ℕ) → group_at (suc k) n ≡ g → (seems 0 0 (below (suc k))).order < suc k → (seems 0 0 (below (suc (suc k)))).order < suc (suc k)
        go zero e r = rw (front_none (suc k) e) (omega (arith, r))
        go (suc g) e r = rw (front_some (suc k) (omega arith) (omega arith) (omega (arith, e))) (omega arith)

    -- one order more
    reads_more : (k : ℕ) → suc k ≤ 34 → groups_read (suc k) (seems 0 0 (below (suc k))) ≡ groups_read k (seems 0 0 (below k)) ++ (group_at k n ∷ [])
    unfolding groups_read seems groups_below
    reads_more zero l = go (group_at 0 n) refl
      where
        go : (g : ℕ) → group_at 0 n ≡ g → groups_read 1 (seems 0 0 (below 1)) ≡ group_at 0 n ∷ []
        go zero e = rw (front_none 0 e, e) refl
        go (suc g) e = rw (front_lowest (omega (arith, e))) refl
    reads_more (suc k) l = go (group_at (suc k) n) refl
      where
        go : (g : ℕ) → group_at (suc k) n ≡ g → groups_read (suc (suc k)) (seems 0 0 (below (suc (suc k)))) ≡ groups_read (suc k) (seems 0 0 (below (suc k))) ++ (group_at (suc k) n ∷ [])
        go zero e =
            let o : (seems 0 0 (below (suc k))).order < suc k = order_below k (omega arith) in
            rw (front_none (suc k) e, e) (reads_over (suc k) (seems 0 0 (below (suc k))) (λ q. omega (arith, q, o)))
        go (suc g) e =
            rw (front_some (suc k) (omega arith) (omega arith) (omega (arith, e))) (reads_here (suc k) (group_at (suc k) n) (below (suc k)))

    number_below : (k : ℕ) → k ≤ 34 → total (groups_read k (seems 0 0 (below k))) ≡ n % 1000 ^ k
    unfolding groups_read
    number_below zero l = sym (mod-one n)
    number_below (suc k) l =
        let r = groups_read k (seems 0 0 (below k)) in
        let m : n % 1000 ^ suc k ≡ group_at k n * 1000 ^ k + n % 1000 ^ k = rw (pow-succ', mod-mul n {m = 1000} {c = 1000 ^ k} (omega arith) (one-le-pow k 1000 (omega arith))) refl in
        ap total (reads_more k l) ∙ total_more r (group_at k n) ∙ rw (reads_length k (seems 0 0 (below k)), number_below k (omega arith), m) (omega arith)

    all_groups : n < 1000 ^ 34 → total (guessed (below 34)) ≡ n
    unfolding guessed
    all_groups h = number_below 34 (omega arith) ∙ mod-eq_of_lt h

    no_sign : is_minus (below 34) ≡ false
    no_sign = not_minus (below 34) (order_below 33 (omega arith))

    below_sounds : (k : ℕ) → k ≤ 34 → Sounds (groups_below (french S) k n)
    unfolding groups_below french
    below_sounds zero l = tt
    below_sounds (suc k) l = sounds_append (group_of (french S) k (group_at k n)) (groups_below (french S) k n) (go (group_at k n)) (below_sounds k (omega arith))
      where
        go : (g : ℕ) → Sounds (group_of (french S) k g)
        go zero = tt
        go (suc g) = group_sounds S v k (suc g) l

  -- a number's words without a sign
  words_sound : (n : ℕ) → Sounds (cardinal_words (french S) false n)
  unfolding cardinal_words french
  words_sound zero = (zero_known.sound, tt)
  words_sound (suc n) = below_sounds (suc n) 34 (omega arith)

  guess_words : (n : ℕ) → n < 1000 ^ 34 → let ms = sense (cardinal_words (french S) false n) in (is_minus ms ≡ false) × (total (guessed ms) ≡ n)
  unfolding cardinal_words french
  guess_words zero h = rw zero_known.means (refl, none_guess)
  guess_words (suc n) h = (no_sign (suc n), all_groups (suc n) h)

  -- a cardinal's sign and number
  pub guess_cardinal : (m : Bool) (n : ℕ) → n < 1000 ^ 34 → (m ≡ true → 0 < n) → let ms = meanings (cardinal_phrase (french S) m n) in (is_minus ms ≡ m) × (total (guessed (behind_minus ms)) ≡ n)
  unfolding cardinal_phrase cardinal_words french
  guess_cardinal true zero h z = absurd (omega (arith, z refl))
  guess_cardinal true (suc n) h z =
      let ws = groups_below (french S) 34 (suc n) in
      rw (meanings_joined (french_joiner S) ((french S).minus_word ∷ ws) (joiner_gap S) (moins_means.0, sounds_closed ws (below_sounds (suc n) 34 (omega arith))), moins_means.1)
      (refl, all_groups (suc n) h)
  guess_cardinal false n h z =
      let ws = cardinal_words (french S) false n in
      let g = guess_words n h in
      rw (meanings_joined (french_joiner S) ws (joiner_gap S) (sounds_closed ws (words_sound n)), g.0) (refl, g.1)

  -- an ordinal's number
  pub guess_ordinal : (n : ℕ) → n < 1000 ^ 34 → total (guessed (meanings (nth_phrase S n))) ≡ n
  unfolding nth_phrase nth_of
  guess_ordinal n h = go (eqb n 1) refl
    where
      go : (t : Bool) → eqb n 1 ≡ t → total (guessed (meanings (nth_phrase S n))) ≡ n
      go true e = rw (e, premier_means) (one_guess ∙ sym (eqb-true n 1 e))
      go false e = rw (e, meanings_nth (french_joiner S) (cardinal_words (french S) false n) (joiner_gap S) (words_sound n)) (guess_words n h).1
