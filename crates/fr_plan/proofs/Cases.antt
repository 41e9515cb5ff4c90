-- The cases of the rules' words as the code's tests have them.
-- Assumes nothing.
use Prim.Native.Nat.{ℕ, zero, suc, ◌-◌, ◌/◌, ◌%◌, ◌<◌, ◌≤◌}
use mathlib.Core.Path.{◌≡◌, refl, sym, ap, ◌∙◌}
use mathlib.Core.Bool.{Bool, true, false, cond, ◌&&◌, ◌||◌}
use mathlib.Core.List.{List, [], ◌∷◌, ◌++◌, append-nil, append_assoc}
use native.Mathlib.Omega.{arith}
use borrow.Author.Tests.{eqb-true}
use lib.Dec.{eqb}
use lib.ListN.{length, get_or}
use Rattle.tables.proofs.Tests.{both_hold}
use Rattle.base.specs.Utf8.{utf8, form1}
use Rattle.base.specs.Join.{Word, spaced_by}
use Rattle.base.specs.Signs.{space, hyphen}
use Rattle.settings.specs.Settings.{Settings}
use Rattle.figures.specs.Groups.{total}
use Rattle.groups.specs.declared.number.Number.{Number}
use Rattle.cardinals.specs.Cardinal.{group_of, cardinal_words}
use Rattle.cardinals.specs.Listed.{listed}
use Rattle.cardinals.proofs.Numbers.{cardinal_zero}
use Rattle.cardinals.proofs.Arrays.{listed_more, cardinal_listed}
use Rattle.fr.specs.FrTables.{units, tens, teens}
use Rattle.fr.specs.Rules.{is_reformed, in_fr, is_mille, french_joiner, cent_word, hundred_words, counts_on, ten_word, round_word, takes_et, link, unit_word, pair_word, tens_words, scale_word, scale_words, french_group, french}

either : {P : Type 0} (a b : Bool) → (a || b) ≡ true → (a ≡ true → P) → (b ≡ true → P) → P
either true b e f g = f refl
either false b e f g = g e

spaced_append : (j : ℕ) (us ws : List Word) → spaced_by j us ++ spaced_by j ws ≡ spaced_by j (us ++ ws)
spaced_append j [] ws = refl
spaced_append j (u ∷ us) ws = ap (λ (l : List ℕ). j ∷ l) (append_assoc u (spaced_by j us) (spaced_by j ws) ∙ ap (λ (l : List ℕ). u ++ l) (spaced_append j us ws))

pub spaced_some : (j : ℕ) (ws : List Word) → 0 < length ws → 0 < length (spaced_by j ws)
spaced_some j [] h = absurd (omega arith)
spaced_some j (w ∷ ws) h = omega arith

-- one word behind the joiner
alone : (j : ℕ) (w : Word) → j ∷ w ≡ spaced_by j (w ∷ [])
alone j w = ap (λ (l : List ℕ). j ∷ l) (sym (append-nil w))

-- hundreds
module _ (j k b : ℕ) where
  pub hundred_none : (h : ℕ) → h ≡ 0 → [] ≡ spaced_by j (hundred_words k h b)
  unfolding hundred_words
  hundred_none h e = rw e refl

  pub hundred_one : (h : ℕ) → h ≡ 1 → j ∷ utf8 "cent" ≡ spaced_by j (hundred_words k h b)
  unfolding hundred_words
  hundred_one h e = rw e refl

  pub hundred_some : (h : ℕ) → (h ≡ 0 → ⊥) → (h ≡ 1 → ⊥) → j ∷ (form1 units (h - 1) ++ (j ∷ cent_word k b)) ≡ spaced_by j (hundred_words k h b)
  unfolding hundred_words
  hundred_some zero m n = absurd (m refl)
  hundred_some (suc zero) m n = absurd (n refl)
  hundred_some (suc (suc h)) m n =
      let e : suc (suc h) - 1 ≡ suc h = omega arith in
      rw (e, append-nil (cent_word k b)) refl

module _ (S : Settings) where
  -- the link from a tens word to the word w
  module _ (t u : ℕ) (w : Word) where
    pub link_et : takes_et S t u ≡ true → (french_joiner S ∷ utf8 "et") ++ (french_joiner S ∷ w) ≡ link S t u ++ w
    unfolding link
    link_et e = rw e (go (is_reformed S))
      where
        go : (b : Bool) → (cond b hyphen space ∷ utf8 "et") ++ (cond b hyphen space ∷ w) ≡ cond b (utf8 "-et-") (utf8 " et ") ++ w
        go true = refl
        go false = refl

    pub link_hyphen : takes_et S t u ≡ false → hyphen ∷ w ≡ link S t u ++ w
    unfolding link
    link_hyphen e = rw e refl

  -- tens and units
  counted_round : (k t : ℕ) → counts_on S t ≡ true → ten_word S (t - 1) ++ (hyphen ∷ form1 teens 0) ≡ round_word S k t
  unfolding ten_word round_word form1 tens teens
  counted_round k t e =
      let p = both_hold (in_fr S) (eqb t 7 || eqb t 9) e in
      let r = eqb-true S.region 0 p.0 in
      either (eqb t 7) (eqb t 9) p.1 (λ q. rw (eqb-true t 7 q, r) refl) (λ q. rw (eqb-true t 9 q, r) refl)

  pub counted : (k t u : ℕ) → 1 < t → counts_on S t ≡ true
      → (french_joiner S ∷ ten_word S (t - 1)) ++ (link S t u ++ form1 teens u) ≡ spaced_by (french_joiner S) (tens_words S k t u)
  unfolding tens_words pair_word link
  counted k zero u h e = absurd (omega arith)
  counted k (suc zero) u h e = absurd (omega arith)
  counted k (suc (suc t)) zero h e = ap (λ (l : List ℕ). french_joiner S ∷ l) (counted_round k (suc (suc t)) e) ∙ alone (french_joiner S) (round_word S k (suc (suc t)))
  counted k (suc (suc t)) (suc u) h e = rw e (alone (french_joiner S) _)

  pub round_low : (k t u : ℕ) → 1 < t → u ≡ 0 → french_joiner S ∷ round_word S k t ≡ spaced_by (french_joiner S) (tens_words S k t u)
  unfolding tens_words
  round_low k zero u h e = absurd (omega arith)
  round_low k (suc zero) u h e = absurd (omega arith)
  round_low k (suc (suc t)) zero h e = alone (french_joiner S) (round_word S k (suc (suc t)))
  round_low k (suc (suc t)) (suc u) h e = absurd (omega arith)

  pub pair_low : (k t u : ℕ) → 1 < t → (u ≡ 0 → ⊥) → counts_on S t ≡ false
      → (french_joiner S ∷ ten_word S t) ++ (link S t u ++ unit_word S k u) ≡ spaced_by (french_joiner S) (tens_words S k t u)
  unfolding tens_words pair_word
  pair_low k zero u h n e = absurd (omega arith)
  pair_low k (suc zero) u h n e = absurd (omega arith)
  pair_low k (suc (suc t)) zero h n e = absurd (n refl)
  pair_low k (suc (suc t)) (suc u) h n e = rw e (alone (french_joiner S) _)

  pub teen_low : (k t u : ℕ) → t ≡ 1 → french_joiner S ∷ form1 teens u ≡ spaced_by (french_joiner S) (tens_words S k t u)
  unfolding tens_words
  teen_low k t u e = rw e (alone (french_joiner S) (form1 teens u))

  module _ (k t u : ℕ) (a : t ≤ 1) (b : t ≡ 1 → ⊥) where
    none : t ≡ 0
    none = omega (arith, b)

    pub none_low : u ≡ 0 → [] ≡ spaced_by (french_joiner S) (tens_words S k t u)
    unfolding tens_words
    none_low e = rw (none, e) refl

    pub unit_low : (u ≡ 0 → ⊥) → french_joiner S ∷ unit_word S k u ≡ spaced_by (french_joiner S) (tens_words S k t u)
    unfolding tens_words
    unit_low n = rw none (go u n)
      where
        go : (u : ℕ) → (u ≡ 0 → ⊥) → french_joiner S ∷ unit_word S k u ≡ spaced_by (french_joiner S) (tens_words S k 0 u)
        go zero n = absurd (n refl)
        go (suc u) n = alone (french_joiner S) (unit_word S k (suc u))

-- the scale word
module _ (j k g : ℕ) where
  pub scale_none : k ≡ 0 → [] ≡ spaced_by j (scale_words k g)
  unfolding scale_words
  scale_none e = rw e refl

  pub scale_some : (k ≡ 0 → ⊥) → j ∷ scale_word k g ≡ spaced_by j (scale_words k g)
  unfolding scale_words
  scale_some n = go k n
    where
      go : (k : ℕ) → (k ≡ 0 → ⊥) → j ∷ scale_word k g ≡ spaced_by j (scale_words k g)
      go zero n = absurd (n refl)
      go (suc k) n = alone j (scale_word (suc k) g)

-- a group
module _ (S : Settings) (j k g : ℕ) where
  pub group_none : g ≡ 0 → [] ≡ spaced_by j (group_of (french S) k g)
  group_none e = rw e refl

  pub group_bare : (g ≡ 0 → ⊥) → (is_mille k && eqb g 1) ≡ true → spaced_by j (scale_words k g) ≡ spaced_by j (group_of (french S) k g)
  unfolding french french_group
  group_bare n e = go g n e
    where
      go : (g : ℕ) → (g ≡ 0 → ⊥) → (is_mille k && eqb g 1) ≡ true → spaced_by j (scale_words k g) ≡ spaced_by j (group_of (french S) k g)
      go zero n e = absurd (n refl)
      go (suc g) n e = rw e refl

  pub group_full : (g ≡ 0 → ⊥) → (is_mille k && eqb g 1) ≡ false
      → spaced_by j (hundred_words k (g / 100 % 10) (g % 100)) ++ (spaced_by j (tens_words S k (g % 100 / 10) (g % 100 % 10)) ++ spaced_by j (scale_words k g)) ≡ spaced_by j (group_of (french S) k g)
  unfolding french french_group
  group_full n e =
      let t : g % 100 / 10 ≡ g / 10 % 10 = omega arith in
      let u : g % 100 % 10 ≡ g % 10 = omega arith in
      rw (t, u) (go g n e)
    where
      go : (g : ℕ) → (g ≡ 0 → ⊥) → (is_mille k && eqb g 1) ≡ false
          → spaced_by j (hundred_words k (g / 100 % 10) (g % 100)) ++ (spaced_by j (tens_words S k (g / 10 % 10) (g % 10)) ++ spaced_by j (scale_words k g)) ≡ spaced_by j (group_of (french S) k g)
      go zero n e = absurd (n refl)
      go (suc g) n e =
          let h = hundred_words k (suc g / 100 % 10) (suc g % 100) in
          let l = tens_words S k (suc g / 10 % 10) (suc g % 10) in
          let s = scale_words k (suc g) in
          rw e (ap (λ (b : List ℕ). spaced_by j h ++ b) (spaced_append j l s) ∙ spaced_append j h (l ++ s) ∙ ap (spaced_by j) (sym (append_assoc h l s)))

pub groups_more : (S : Settings) (j n : ℕ) (gs : List ℕ) → (n ≡ 0 → ⊥)
    → spaced_by j (group_of (french S) (n - 1) (get_or gs (n - 1) 0)) ++ spaced_by j (listed (french S) (n - 1) gs) ≡ spaced_by j (listed (french S) n gs)
groups_more S j n gs z =
    spaced_append j (group_of (french S) (n - 1) (get_or gs (n - 1) 0)) (listed (french S) (n - 1) gs) ∙ ap (spaced_by j) (listed_more (french S) gs n z)

-- a cardinal
module _ (S : Settings) (x : Number 34) (m : Bool) where
  pub card_zero : total x.groups ≡ 0 → french_joiner S ∷ utf8 "zéro" ≡ spaced_by (french_joiner S) (cardinal_words (french S) m (total x.groups))
  unfolding french
  card_zero e = ap (spaced_by (french_joiner S)) (sym (cardinal_zero (french S) m (total x.groups) e))

  module _ (s : total x.groups ≡ 0 → ⊥) where
    pub card_minus : m ≡ true → (french_joiner S ∷ utf8 "moins") ++ spaced_by (french_joiner S) (listed (french S) x.orders x.groups) ≡ spaced_by (french_joiner S) (cardinal_words (french S) m (total x.groups))
    unfolding french
    card_minus d = rw d (ap (spaced_by (french_joiner S)) (cardinal_listed (french S) x true refl s))

    pub card_plain : m ≡ false → spaced_by (french_joiner S) (listed (french S) x.orders x.groups) ≡ spaced_by (french_joiner S) (cardinal_words (french S) m (total x.groups))
    unfolding french
    card_plain d = rw d (ap (spaced_by (french_joiner S)) (cardinal_listed (french S) x false refl s))
