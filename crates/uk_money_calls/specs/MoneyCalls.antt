-- The two calls of Ukrainian money (01, "Ukrainian money"): what spelling and reading come to.
-- Assumes nothing.
use Rattle.std.specs.Prelude.{ℕ, List, [], ◌∷◌}
use Rattle.std.proofs.Math.Option.{Option, none, some}
use Rattle.base.specs.Answer.{Spelling, first_of}
use Rattle.base.specs.Reading.{Reading}
use Rattle.settings.specs.Settings.{ukrainian_ranges}
use Rattle.settings.specs.Refused.{out_of_range}
use Rattle.settings.specs.Settings.{Settings}
use Rattle.figures.specs.Money.{whole_of, hundredths_of}
use Rattle.figures.specs.Refusals.{amount_refusals}
use Rattle.figures.specs.Value.{AmountMeans}
use Rattle.uk_money.specs.Currencies.{Currency}
use Rattle.uk_money.specs.Codes.{currency_of, unknown}
use Rattle.uk_money.specs.Money.{amount_phrase}
use Rattle.uk_money.specs.MoneyGrammar.{SaysMoney}

-- the phrase of a money text in a currency; nothing is said in none
abbrev pub money_phrase : Settings → Option Currency → List ℕ → List ℕ
money_phrase S none t = []
money_phrase S (some c) t = amount_phrase S c (whole_of t) (hundredths_of t)

-- the phrase s is an amount in a currency, whose value is the money text t; in none there is no sentence
abbrev pub MoneyMeans : Settings → Option Currency → List ℕ → List ℕ → Type 0
MoneyMeans S none s t = ⊥
MoneyMeans S (some c) s t = AmountMeans (SaysMoney S c s) t

-- spelling and reading in a currency, if there is one
abbrev pub amount_spelling : Settings → Option Currency → List ℕ → Spelling
amount_spelling S c t = record { refusal = first_of (out_of_range (ukrainian_ranges S) ∷ unknown c ∷ amount_refusals t); phrase = money_phrase S c t }

abbrev pub amount_reading : Settings → Option Currency → Reading
amount_reading S c = record { refusal = first_of (out_of_range (ukrainian_ranges S) ∷ unknown c ∷ []); Means = MoneyMeans S c }

-- the phrase of a money text in the currency of a code
abbrev pub uk_to_currency : Settings → List ℕ → List ℕ → Spelling
uk_to_currency S code t = amount_spelling S (currency_of code) t

-- the money text of an amount in the currency of a code
abbrev pub uk_from_currency : Settings → List ℕ → Reading
uk_from_currency S code = amount_reading S (currency_of code)
