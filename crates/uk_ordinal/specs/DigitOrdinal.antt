-- Digit ordinals (01, "Ukrainian ordinals, years, codes").
-- Assumes nothing.
use Rattle.std.specs.Prelude.{ℕ, Bool, true, false, cond, List, ◌++◌, eqb}
use Rattle.base.specs.Join.{Word}
use Rattle.base.specs.Utf8.{utf8, form1, form2}
use Rattle.settings.specs.Settings.{singular, Settings}
use Rattle.figures.specs.Text.{value}
use Rattle.uk_ordinal.specs.OrdinalTables.{ordinal_hard_flexions_singular_short, ordinal_soft_flexions_singular_short, ordinal_flexions_plural_short}
use Rattle.uk_ordinal.specs.Ordinal.{soft}

-- the ending in the singular, soft or not
abbrev pub short_singular : Settings → Bool → Word
short_singular S true = form2 ordinal_soft_flexions_singular_short S.gender S.case
short_singular S false = form2 ordinal_hard_flexions_singular_short S.gender S.case

-- "an ending from the `SHORT` tables, soft by the same rule (the plural has one table)"
unfoldable pub short_flexion : Settings → Bool → Word
short_flexion S is_soft = cond (eqb S.number singular) (short_singular S is_soft) (form1 ordinal_flexions_plural_short S.case)

-- "digits, `-`, an ending"
unfoldable pub digit_ordinal : Settings → List ℕ → List ℕ
digit_ordinal S t = t ++ (utf8 "-" ++ short_flexion S (soft (value t)))
