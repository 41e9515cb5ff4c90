-- A digit ordinal is one word.
-- Assumes nothing.
use Prim.Native.Nat.{ℕ}
use mathlib.Core.Path.{◌≡◌, refl}
use mathlib.Core.Bool.{Bool, true, false, cond}
use mathlib.Core.List.{List, [], ◌∷◌, ◌++◌}
use native.Mathlib.Omega.{arith}
use borrow.Author.Tests.{ne_eqb}
use lib.Dec.{eqb}
use Rattle.base.specs.Measure.{spaces}
use Rattle.base.specs.Utf8.{utf8, form1}
use Rattle.base.proofs.Unspaced.{Unspaced, unspaced_append, unspaced_at1, unspaced_at2}
use Rattle.settings.specs.Settings.{singular}
use Rattle.settings.specs.Settings.{Settings}
use Rattle.figures.specs.Text.{digits, value}
use Rattle.figures.proofs.Laws.Digits.{digit_low, digits_head, digits_tail}
use Rattle.uk_ordinal.specs.OrdinalTables.{ordinal_hard_flexions_singular_short, ordinal_soft_flexions_singular_short, ordinal_flexions_plural_short}
use Rattle.uk_ordinal.specs.Ordinal.{soft}
use Rattle.uk_ordinal.specs.DigitOrdinal.{short_singular, short_flexion, digit_ordinal}

ending_unspaced : (S : Settings) (is_soft : Bool) → Unspaced (short_flexion S is_soft)
unfolding short_flexion spaces ordinal_hard_flexions_singular_short ordinal_soft_flexions_singular_short ordinal_flexions_plural_short
ending_unspaced S is_soft = go (eqb S.number singular) is_soft
  where
    go : (single is_soft : Bool) → Unspaced (cond single (short_singular S is_soft) (form1 ordinal_flexions_plural_short S.case))
    go true true = unspaced_at2 ordinal_soft_flexions_singular_short refl S.gender S.case
    go true false = unspaced_at2 ordinal_hard_flexions_singular_short refl S.gender S.case
    go false is_soft = unspaced_at1 ordinal_flexions_plural_short refl S.case

digits_unspaced : (t : List ℕ) → digits t ≡ true → Unspaced t
unfolding spaces
digits_unspaced [] d = refl
digits_unspaced (b ∷ t) d = rw (ne_eqb b 32 (λ e. omega (arith, digit_low b (digits_head b t d)))) (digits_unspaced t (digits_tail b t d))

hyphen_unspaced : Unspaced (utf8 "-")
unfolding spaces
hyphen_unspaced = refl

-- digits, a hyphen and an ending: no space
pub ordinal_unspaced : (S : Settings) (t : List ℕ) → digits t ≡ true → Unspaced (digit_ordinal S t)
unfolding digit_ordinal
ordinal_unspaced S t d =
    unspaced_append t (utf8 "-" ++ short_flexion S (soft (value t))) (digits_unspaced t d)
    (unspaced_append (utf8 "-") (short_flexion S (soft (value t))) hyphen_unspaced (ending_unspaced S (soft (value t))))
