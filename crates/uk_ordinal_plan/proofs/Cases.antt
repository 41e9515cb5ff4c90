-- The cases of the ordinals' words as the code's tests have them.
-- Assumes nothing.
use Prim.Native.Nat.{ℕ, zero, suc, ◌+◌, ◌-◌, ◌/◌, ◌%◌, ◌<◌}
use mathlib.Core.Path.{◌≡◌, refl}
use mathlib.Core.Bool.{true, false, ◌&&◌}
use mathlib.Core.List.{List, [], ◌∷◌, ◌++◌, flatten, append-nil}
use native.Mathlib.Omega.{arith}
use borrow.Author.Tests.{ne_eqb}
use lib.Dec.{eqb, ltb}
use Rattle.base.specs.Join.{Word}
use Rattle.base.specs.Utf8.{utf8, form1, form2}
use Rattle.settings.specs.Settings.{Settings}
use Rattle.uk.specs.UkTables.{mega_bases}
use Rattle.uk.specs.Apostrophes.{by_apostrophe1}
use Rattle.uk.specs.Rules.{DigitWords, opt, low_words, num_words}
use Rattle.uk.specs.Ukrainian.{unit_form, ukrainian_digits}
use Rattle.uk_ordinal.specs.OrdinalTables.{hundred_base, ordinal_unit_bases}
use Rattle.uk_ordinal.specs.Ordinal.{in_nominative, in_genitive, school, compound_digits, compound_word, tail_words, hundred_count, plain_words}

-- no list is empty that has an element
some : {A : Type 0} {a : A} {l : List A} → a ∷ l ≡ [] → ⊥
some e = cc

pub num_hundred : (W : DigitWords) (h t u : ℕ) → (h ≡ 0 → ⊥) → (W.hundred h ∷ []) ++ low_words W t u ≡ num_words W h t u
num_hundred W zero t u n = absurd (n refl)
num_hundred W (suc h) t u n = refl

-- a group that is not 0 has words
pub num_some : (W : DigitWords) (h t u : ℕ) → 0 < h + (t + u) → num_words W h t u ≡ [] → ⊥
num_some W (suc h) t u l e = some e
num_some W zero (suc zero) u l e = some e
num_some W zero (suc (suc t)) u l e = some e
num_some W zero zero (suc u) l e = some e
num_some W zero zero zero l e = omega arith

pub joined_some : (us : List Word) (v : Word) (vs : List Word) → us ++ (v ∷ vs) ≡ [] → ⊥
joined_some [] v vs e = some e
joined_some (u ∷ us) v vs e = some e

module _ (S : Settings) where
  -- a compound's unit
  pub unit_more : (u : ℕ) → 1 < u → unit_form (in_genitive S) u ∷ [] ≡ opt (compound_digits S).unit u
  unfolding compound_digits
  unit_more zero h = absurd (omega arith)
  unit_more (suc zero) h = absurd (omega arith)
  unit_more (suc (suc u)) h = rw (ne_eqb (suc (suc u)) 1 (λ e. omega arith)) refl

  -- a compound: a lone group of 1, and any other
  pub bare_word : (e : Word) (rest k g : ℕ) → (eqb rest 0 && eqb g 1) ≡ true → flatten (form1 mega_bases (k - 1) ∷ utf8 "н" ∷ e ∷ []) ≡ compound_word S e rest k g
  unfolding compound_word
  bare_word e rest k g h = rw h refl

  pub counted_word : (e : Word) (rest k g : ℕ) → (eqb rest 0 && eqb g 1) ≡ false
      → flatten (num_words (compound_digits S) (g / 100 % 10) (g / 10 % 10) (g % 10) ++ (form1 mega_bases (k - 1) ∷ utf8 "н" ∷ e ∷ [])) ≡ compound_word S e rest k g
  unfolding compound_word
  counted_word e rest k g h = rw h refl

  -- tens and units at order 0
  pub tail_unit : (e : Word) (t u : ℕ) → (t ≡ 1 → ⊥) → (u ≡ 0 → ⊥)
      → opt (ukrainian_digits (in_nominative S)).ten t ++ ((form2 (by_apostrophe1 ordinal_unit_bases) S.apostrophe (u - 1) ++ e) ∷ []) ≡ tail_words S e t u
  tail_unit e t u n z = rw (ne_eqb t 1 n, ne_eqb u 0 z) refl

  -- a round hundred: behind its count, and without one
  pub counted_hundred : (e : Word) (h : ℕ) → (school S && ltb 1 h) ≡ true → flatten (unit_form (in_genitive S) h ∷ utf8 hundred_base ∷ e ∷ []) ≡ hundred_count S h ++ (utf8 hundred_base ++ e)
  unfolding flatten
  counted_hundred e h t = rw (t, append-nil e) refl

  pub bare_hundred : (e : Word) (h : ℕ) → (school S && ltb 1 h) ≡ false → utf8 hundred_base ++ e ≡ hundred_count S h ++ (utf8 hundred_base ++ e)
  bare_hundred e h t = rw t refl

  -- the group at order 0
  pub plain_more : (e : Word) (g : ℕ) → (g % 100 ≡ 0 → ⊥)
      → opt (ukrainian_digits (in_nominative S)).hundred (g / 100 % 10) ++ tail_words S e (g / 10 % 10) (g % 10) ≡ plain_words S e g
  unfolding plain_words
  plain_more e g z = rw (ne_eqb (g % 100) 0 z) refl
