-- Which currency a code means: "one of the 44 codes, capitals as in `from_str`" (01, "Where each refusal arises", 2).
-- Assumes nothing.
use Rattle.std.specs.Prelude.{ℕ, Bool, true, false, cond, List, [], ◌∷◌}
use Rattle.std.proofs.Math.Option.{Option, none, some}
use Rattle.base.specs.Answer.{wrong_code}
use Rattle.base.specs.Utf8.{utf8}
use Rattle.base.specs.Same.{same_text}
use Rattle.uk_money.specs.Currencies.{Currency, currencies}

-- the currency with this code among some, if one of them has it
unfoldable pub currency_in : List Currency → List ℕ → Option Currency
currency_in [] code = none
currency_in (c ∷ cs) code = cond (same_text (utf8 c.code) code) (some c) (currency_in cs code)

-- the currency with this code, if there is one
abbrev pub currency_of : List ℕ → Option Currency
currency_of code = currency_in currencies code

-- the condition that there is none
abbrev pub unknown : Option Currency → Bool × ℕ
unknown none = (true, wrong_code)
unknown (some c) = (false, wrong_code)
