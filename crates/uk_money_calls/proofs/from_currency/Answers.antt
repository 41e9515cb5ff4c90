-- `uk_money_calls::from_currency`: what is read in the currency that the code means.
-- Assumes nothing.
use Rattle.std.proofs.Common.{refl, subst}
use Rattle.std.proofs.Math.Option.{some}
use Rattle.base.specs.Reading.{Reads}
use Rattle.base.specs.Refused.{answer_of}
use Rattle.settings.specs.Settings.{Settings}
use Rattle.uk_money.specs.Rows.{currency_at}
use Rattle.uk_money.proofs.Coded.{found_code}
use Rattle.uk_money_calls.specs.MoneyCalls.{amount_reading}
use Rattle.uk_money_calls.proofs.from_currency.Goals as goal

pub returns : goal.returns
returns c =
    let a = c.args in
    let P : Settings → Type 0 = λ S. Reads (amount_reading S (some (currency_at c.in_ok-currency.currency.place))) a.said.now (answer_of c.read.result) a.out.now c.read.new.out in
    rw (found_code _ _ c.code_of.ensures _ c.in_ok-currency.ensures.ok_part) (subst P (c.in_ok-settings.ensures.chosen _ refl) c.read.ensures)
