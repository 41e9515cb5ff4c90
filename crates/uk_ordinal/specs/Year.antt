-- The words of a year (01, "Ukrainian ordinals, years, codes").
-- Assumes nothing.
use Rattle.std.specs.Prelude.{zero, suc, Bool, true, false, List, [], ◌∷◌, ◌++◌, ℤ, pos, negsuc, nat_abs}
use Rattle.base.specs.Join.{Word}
use Rattle.base.specs.Utf8.{utf8, form2}
use Rattle.settings.specs.Settings.{masculine, in_gender, Settings}
use Rattle.uk_ordinal.specs.OrdinalTables.{year}
use Rattle.uk_ordinal.specs.Ordinal.{ordinal_words}

-- "year 0 and below"; negsuc n is the year -(n + 1)
abbrev pub early : ℤ → Bool
early (pos zero) = true
early (pos (suc n)) = false
early (negsuc n) = true

-- what early years "add", and others do not
abbrev pub era_words : Bool → List Word
era_words true = utf8 "до" ∷ utf8 "н.е." ∷ []
era_words false = []

-- "`YEAR` by grammatical number and case"
unfoldable pub year_noun : Settings → Word
year_noun S = form2 year S.number S.case

-- "masculine ordinal of the magnitude, a space, then `YEAR`"
unfoldable pub year_words : Settings → ℤ → List Word
year_words S y = ordinal_words (in_gender masculine S) (nat_abs y) ++ (year_noun S ∷ era_words (early y))
