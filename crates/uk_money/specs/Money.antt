-- The words of an amount of money (01, "Ukrainian money"): what the speller says.
-- Assumes nothing.
use Rattle.std.specs.Prelude.{ℕ, zero, suc, false, List, ◌++◌}
use Rattle.base.specs.Join.{Word, joined}
use Rattle.settings.specs.Settings.{in_gender, Settings}
use Rattle.cardinals.specs.Cardinal.{cardinal_words}
use Rattle.uk.specs.Ukrainian.{ukrainian}
use Rattle.uk_money.specs.Nouns.{Name, agreed_name}
use Rattle.uk_money.specs.Currencies.{Currency}

-- a count of a unit: "cardinal, space, noun", the cardinal in the unit's gender
unfoldable pub count_words : Settings → Name → ℕ → List Word
count_words S name n = cardinal_words (ukrainian (in_gender name.gender S)) false n ++ agreed_name S name n

-- an amount of a whole part and hundredths: "A whole amount", "Hundredths alone (whole part 0)", or "Both: the two phrases joined by a space"
unfoldable pub amount_words : Settings → Currency → ℕ → ℕ → List Word
amount_words S c n zero = count_words S c.main n
amount_words S c zero (suc h) = count_words S c.fraction (suc h)
amount_words S c (suc n) (suc h) = count_words S c.main (suc n) ++ count_words S c.fraction (suc h)

-- its phrase
unfoldable pub amount_phrase : Settings → Currency → ℕ → ℕ → List ℕ
amount_phrase S c n h = joined (amount_words S c n h)
