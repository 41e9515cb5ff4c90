-- The words of a compound's digits are those of the settings that the code makes for each digit.
-- Assumes nothing.
use Prim.Native.Nat.{ℕ, ◌-◌, ◌<◌}
use mathlib.Core.Path.{◌≡◌, refl, ap, ◌∙◌}
use mathlib.Core.Bool.{Bool, true, false, cond, ◌&&◌}
use mathlib.Core.List.{[]}
use borrow.Author.Tests.{eqb-true}
use lib.Dec.{eqb}
use lib.ListN.{get_or}
use Rattle.tables.proofs.Tests.{both_hold}
use Rattle.base.specs.Join.{Word}
use Rattle.base.specs.Utf8.{utf8, form3}
use Rattle.settings.specs.Settings.{nominative, Settings}
use Rattle.settings.specs.Chosen.{numbers_of}
use Rattle.settings.specs.declared.ukrainian.Ukrainian.{Ukrainian}
use Rattle.settings.proofs.Chosen.{apostrophe_bound}
use Rattle.uk.specs.UkTables.{tens, hundreds}
use Rattle.uk.specs.Apostrophes.{with_apostrophe, by_apostrophe2, sign_at}
use Rattle.uk.specs.Ukrainian.{ukrainian_digits}
use Rattle.uk.proofs.Apostrophes.{by1, by2}
use Rattle.uk_ordinal.specs.Ordinal.{in_nominative, in_genitive, school, compound_digits}

-- the nominative of 100 and of 90, under each apostrophe
hundred_nominative : (a : ℕ) → a < 3 → form3 (by_apostrophe2 hundreds) a 0 nominative ≡ utf8 "сто"
unfolding hundreds
hundred_nominative a h = by2 hundreds a 0 nominative h ∙ by1 (get_or hundreds 0 []) a nominative h

ninety_nominative : (a : ℕ) → a < 3 → form3 (by_apostrophe2 tens) a 7 nominative ≡ utf8 (with_apostrophe (sign_at a) "девʼяносто")
unfolding tens
ninety_nominative a h = by2 tens a 7 nominative h ∙ by1 (get_or tens 7 []) a nominative h

-- the settings of a compound's word for a digit, where one digit is nominative in school
abbrev pub compound_settings : Settings → ℕ → ℕ → Settings
compound_settings S digit nominative = cond (school S && eqb digit nominative) (in_nominative S) (in_genitive S)

module _ (s form : Ukrainian) where
  abbrev S : Settings
  S = numbers_of s

  sign_below : S.apostrophe < 3
  sign_below = apostrophe_bound s.apostrophe

  -- a hundreds digit
  pub hundred_word : (h : ℕ) → numbers_of form ≡ compound_settings S h 1 → form3 (by_apostrophe2 hundreds) (numbers_of form).apostrophe (h - 1) (numbers_of form).case ≡ (compound_digits S).hundred h
  unfolding compound_digits ukrainian_digits
  hundred_word h f = ap (λ (T : Settings). form3 (by_apostrophe2 hundreds) T.apostrophe (h - 1) T.case) f ∙ go (school S && eqb h 1) refl
    where
      go : (t : Bool) → (school S && eqb h 1) ≡ t → let T = cond t (in_nominative S) (in_genitive S) in
          form3 (by_apostrophe2 hundreds) T.apostrophe (h - 1) T.case ≡ cond t (utf8 "сто") ((ukrainian_digits (in_genitive S)).hundred h)
      go true e = rw (eqb-true h 1 (both_hold (school S) (eqb h 1) e).1) (hundred_nominative S.apostrophe sign_below)
      go false e = refl

  -- a tens digit
  pub ten_word_lem : (t : ℕ) → numbers_of form ≡ compound_settings S t 9 → form3 (by_apostrophe2 tens) (numbers_of form).apostrophe (t - 2) (numbers_of form).case ≡ (compound_digits S).ten t
  unfolding compound_digits ukrainian_digits
  ten_word_lem t f = ap (λ (T : Settings). form3 (by_apostrophe2 tens) T.apostrophe (t - 2) T.case) f ∙ go (school S && eqb t 9) refl
    where
      go : (b : Bool) → (school S && eqb t 9) ≡ b → let T = cond b (in_nominative S) (in_genitive S) in
          form3 (by_apostrophe2 tens) T.apostrophe (t - 2) T.case ≡ cond b (utf8 (with_apostrophe (sign_at S.apostrophe) "девʼяносто")) ((ukrainian_digits (in_genitive S)).ten t)
      go true e = rw (eqb-true t 9 (both_hold (school S) (eqb t 9) e).1) (ninety_nominative S.apostrophe sign_below)
      go false e = refl
