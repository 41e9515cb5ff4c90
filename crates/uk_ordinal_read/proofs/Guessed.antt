-- What is made of the phrase of any ordinal is its number, and so of a year's: a phrase comes from one number only.
-- Assumes nothing.
use Prim.Native.Nat.{ℕ, zero, suc, ◌+◌, ◌-◌, ◌*◌, ◌%◌, ◌^◌, ◌<◌}
use mathlib.Core.Path.{◌≡◌, refl, sym, ap, ◌∙◌}
use mathlib.Core.Bool.{Bool, true, false, not}
use mathlib.Core.List.{List, [], ◌∷◌, ◌++◌, append_assoc, append-nil}
use native.Mathlib.Nat.{pow-succ', mod-eq_of_lt, mul_left_comm}
use native.Mathlib.Omega.{arith}
use borrow.Author.Tests.{not-true}
use lib.Dec.{eqb}
use lib.ListN.{length, get_or, set, length-append}
use lib.Seq.{get_or-append_seam, get_or-append-add}
use Rattle.base.specs.Join.{Word, spaced_by, joined}
use Rattle.base.specs.Signs.{space, point}
use Rattle.base.specs.Utf8.{utf8, form2}
use Rattle.tables.proofs.Tests.{all, all_at}
use Rattle.settings.specs.Settings.{masculine, ukrainian_ranges, Within, in_gender}
use Rattle.settings.specs.Settings.{Settings}
use Rattle.figures.specs.Groups.{total}
use Rattle.figures.proofs.Laws.Groups.{group_of_lem}
use Rattle.cardinals.specs.Lexicon.{Lexicon}
use Rattle.cardinals.specs.Cardinal.{group_at, groups_below, cardinal_words, cardinal_phrase}
use Rattle.cardinals.proofs.Numbers.{says}
use Rattle.tokens.specs.Tokens.{split}
use Rattle.uk.specs.Ukrainian.{ukrainian}
use Rattle.uk_read.specs.Reading.{taken, sums, signed, after_minus}
use Rattle.uk_read.proofs.Falls.{sums_length, sums_groups, lone}
use Rattle.uk_read.proofs.Compared.{made}
use Rattle.uk_ordinal.specs.OrdinalTables.{year}
use Rattle.uk_ordinal.specs.Ordinal.{school, in_nominative, ordinal_words}
use Rattle.uk_ordinal.specs.Year.{era_words, year_noun}
use Rattle.uk_ordinal_read.specs.LastWord.{spaced, last_word, before_last}
use Rattle.uk_ordinal_read.specs.Guess.{ordinal_groups, ordinal_number, seems_early, year_ordinal}
use Rattle.uk_ordinal_read.proofs.Stems.{without_end}
use Rattle.uk_ordinal_read.proofs.Ends.{spaced_at, all_last}
use Rattle.uk_ordinal_read.proofs.Parts.{Parts, ordinal_parts}

-- the last word of a text, and what stands before it
spaced_more : (x w : List ℕ) → spaced (x ++ (space ∷ w)) ≡ true
spaced_more x w = spaced_at (x ++ (space ∷ w)) (length x) (omega (arith, length-append x (space ∷ w))) (get_or-append_seam x space w 0)

last_behind : (x w : List ℕ) → spaced w ≡ false → (last_word (x ++ (space ∷ w)) ≡ w) × (before_last (x ++ (space ∷ w)) ≡ x)
unfolding last_word before_last
last_behind [] w e = (rw e refl, rw e refl)
last_behind (b ∷ x) w e = let p = last_behind x w e in (rw (spaced_more x w) p.0, rw (spaced_more x w, p.1) refl)

-- words joined, and one more
spaced_by_more : (us vs : List Word) → spaced_by space (us ++ vs) ≡ spaced_by space us ++ spaced_by space vs
spaced_by_more [] vs = refl
spaced_by_more (u ∷ us) vs = ap (λ (l : List ℕ). space ∷ l) (ap (λ (l : List ℕ). u ++ l) (spaced_by_more us vs) ∙ sym (append_assoc u (spaced_by space us) (spaced_by space vs)))

pub joined_more : (u : Word) (us vs : List Word) → joined ((u ∷ us) ++ vs) ≡ joined (u ∷ us) ++ spaced_by space vs
joined_more u us vs = ap (λ (l : List ℕ). u ++ l) (spaced_by_more us vs) ∙ sym (append_assoc u (spaced_by space us) (spaced_by space vs))

last_joined : (ws : List Word) (w : Word) → spaced w ≡ false → (last_word (joined (ws ++ (w ∷ []))) ≡ w) × (before_last (joined (ws ++ (w ∷ []))) ≡ joined ws)
last_joined [] w e = let p = all_last w e in rw (append-nil w) (sym p.0, sym p.1)
last_joined (u ∷ us) w e = rw (joined_more u us (w ∷ []), append-nil w) (last_behind (joined (u ∷ us)) w e)

-- groups of which one has so many more
total_set : (gs : List ℕ) (k v : ℕ) → k < length gs → total (set gs k (get_or gs k 0 + v)) ≡ total gs + v * 1000 ^ k
total_set [] k v h = absurd (omega arith)
total_set (g ∷ gs) zero v h = omega arith
total_set (g ∷ gs) (suc k) v h =
    let e : v * 1000 ^ suc k ≡ 1000 * (v * 1000 ^ k) = rw (pow-succ' 1000 k) (mul_left_comm v 1000 (1000 ^ k)) in
    rw (total_set gs k v (omega arith), e) (omega arith)

-- a part of a sum is as small
part_small : (a b n most : ℕ) → a + b ≡ n → n < most → a < most
part_small a b n most e h = omega arith

-- words that do not begin with the minus word
past : (ws : List Word) → signed ws ≡ false → after_minus ws ≡ ws
past [] e = refl
past (w ∷ ws) e = rw e refl

-- 0 has no groups, and none are made of no words
no_groups : (L : Lexicon) → groups_below L 22 0 ≡ []
unfolding groups_below
no_groups L = refl

no_words : total (sums 22 (split [])) ≡ 0
unfolding split taken
no_words = lone [] 0 [] refl 21

module _ (S : Settings) (w : Within (ukrainian_ranges S)) where
  -- the cardinal before the last word is read
  front_read : (m : ℕ) → m < 1000 ^ 22 → total (sums 22 (split (joined (groups_below (ukrainian S) 22 m)))) ≡ m
  unfolding cardinal_phrase cardinal_words ukrainian
  front_read zero h = rw (no_groups (ukrainian S)) no_words
  front_read (suc m) h =
      let s = joined (groups_below (ukrainian S) 22 (suc m)) in
      let p = made S w s false (suc m) (says (ukrainian S) false (suc m) h (λ e. refl)) in
      ap (λ (ws : List Word). total (sums 22 ws)) (sym (past (split s) p.0)) ∙ p.1

-- the words before the last are those of another number in the nominative
nominative : (S : Settings) → Within (ukrainian_ranges S) → Within (ukrainian_ranges (in_nominative S))
nominative S w = (omega arith, (w.1.0, (omega arith, w.1.1.1)))

module _ (S : Settings) (w : Within (ukrainian_ranges S)) (is_school : school S ≡ true) where
  -- of words in parts
  parts_guessed : (ws : List Word) (n : ℕ) → n < 1000 ^ 22 → Parts S w ws n → ordinal_number S (joined ws) ≡ n
  unfolding ordinal_groups
  parts_guessed ws n h p =
      let W = groups_below (ukrainian (in_nominative S)) 22 p.front in
      let j = last_joined W p.last p.ends.unspaced in
      let m = front_read (in_nominative S) (nominative S w) p.front (part_small p.front (p.value * 1000 ^ p.order) n (1000 ^ 22) p.sum h) in
      let gs = sums 22 (split (joined W)) in
      let l : length gs ≡ 22 = sums_length 22 (split (joined W)) in
      let g : get_or gs p.order 0 ≡ group_at p.order p.front = group_of_lem gs p.order (sums_groups 22 (split (joined W))) (omega (arith, l, p.placed)) ∙ ap (group_at p.order) m in
      let r : (get_or gs p.order 0 + p.value) % 1000 ≡ get_or gs p.order 0 + p.value = mod-eq_of_lt (omega (arith, g, p.room)) in
      rw (p.words, j.0, j.1, p.ends.order_is, p.ends.value_is, r) (total_set gs p.order p.value (omega (arith, l, p.placed)) ∙ ap (λ (i : ℕ). i + p.value * 1000 ^ p.order) m ∙ p.sum)

  pub ordinal_guessed : (n : ℕ) → n < 1000 ^ 22 → ordinal_number S (joined (ordinal_words S n)) ≡ n
  ordinal_guessed n h = parts_guessed (ordinal_words S n) n h (ordinal_parts S w is_school n h)

-- the last byte of a year's phrase is a full stop just where it is an early one's
last_byte : List ℕ → ℕ
last_byte s = get_or s (length s - 1) 0

last_append : (x : List ℕ) (b : ℕ) (y : List ℕ) → last_byte (x ++ (b ∷ y)) ≡ last_byte (b ∷ y)
unfolding last_byte
last_append x b y =
    let l : length (x ++ (b ∷ y)) - 1 ≡ length x + length y = omega (arith, length-append x (b ∷ y)) in
    let m : length (b ∷ y) - 1 ≡ length y = omega arith in
    rw (l, m) (get_or-append-add x (b ∷ y) (length y) 0)

noun? : ℕ → ℕ → Bool
noun? n c = not (eqb (last_byte (space ∷ (form2 year n c ++ []))) point)

nouns_pass : all 0 2 (λ n. all 0 6 (noun? n)) ≡ true
unfolding noun? last_byte form2 year
nouns_pass = refl

module _ (S : Settings) (w : Within (ukrainian_ranges S)) where
  -- the words behind the ordinal
  abbrev tail : Bool → List ℕ
  tail early = spaced_by space (year_noun S ∷ era_words early)

  tail_stops : (early : Bool) → eqb (last_byte (tail early)) point ≡ early
  unfolding year_noun noun? last_byte
  tail_stops true = ap (λ (b : ℕ). eqb b point) (last_append (space ∷ year_noun S) space (utf8 "до" ++ (space ∷ (utf8 "н.е." ++ []))))
  tail_stops false = not-true _ (all_at 0 6 (noun? S.number) (all_at 0 2 (λ n. all 0 6 (noun? n)) nouns_pass S.number (omega arith) w.1.0) S.case (omega arith) w.1.1.0)

  module _ (is_school : school S ≡ true) (early : Bool) (n : ℕ) (h : n < 1000 ^ 22) where
    abbrev M : Settings
    M = in_gender masculine S

    in_masculine : Within (ukrainian_ranges M)
    in_masculine = (omega arith, w.1)

    -- a year's phrase is its ordinal's, and the words behind it
    year_phrase : joined (ordinal_words M n ++ (year_noun S ∷ era_words early)) ≡ joined (ordinal_words M n) ++ tail early
    year_phrase = go (ordinal_words M n) (some_words (ordinal_parts M in_masculine is_school n h))
      where
        some_words : Parts M in_masculine (ordinal_words M n) n → ordinal_words M n ≡ [] → ⊥
        some_words p e =
            let W = groups_below (ukrainian (in_nominative M)) 22 p.front in
            omega (arith, ap length (sym p.words ∙ e), length-append W (p.last ∷ []))

        go : (ws : List Word) → (ws ≡ [] → ⊥) → joined (ws ++ (year_noun S ∷ era_words early)) ≡ joined ws ++ tail early
        go [] f = absurd (f refl)
        go (u ∷ us) f = joined_more u us (year_noun S ∷ era_words early)

    pub year_guessed : let s = joined (ordinal_words M n ++ (year_noun S ∷ era_words early)) in (seems_early s ≡ early) × (ordinal_number M (year_ordinal S early s) ≡ n)
    unfolding year_ordinal last_byte
    year_guessed =
        let x = joined (ordinal_words M n) in
        rw year_phrase (
          ap (λ (b : ℕ). eqb b point) (last_append x space (year_noun S ++ spaced_by space (era_words early))) ∙ tail_stops early,
          rw (without_end x (tail early)) (ordinal_guessed M in_masculine is_school n h),
        )
