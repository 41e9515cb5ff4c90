-- Bytes that hold no tally are refused; those that hold one are what the removal asks for.
-- Assumes nothing.
use Rattle.std.proofs.Common.{◌≡◌, None, Some, Err, refl, rules}
use Rattle.base.specs.declared.Refusal.TheVariants.{WrongCode}
use Rattle.tally_calls.proofs.Decisions.{decides_refused}
use Rattle.tally_calls.proofs.Refused.{removes_nowhere}
use Rattle.tally_calls.proofs.deciding.remove_from.Goals as goal

pub returns-in_err-currency : goal.returns-in_err-currency
returns-in_err-currency c =
    let refused : c.from_residual-in_err-currency.result ≡ Err WrongCode = search rules in
    let nowhere : c.currency_of.result ≡ None = search rules in
    let chosen = c.in_ok-settings.ensures.chosen _ refl in
    rw (refused, c.currency_of.ensures.none nowhere) (decides_refused WrongCode refl c.args.tally.now c.args.out.now _ (removes_nowhere _ chosen c.args.item))

pub remove_item-requires : goal.remove_item-requires
remove_item-requires c =
    let there : c.currency_of.result ≡ Some c.in_ok-currency.currency = search rules in
    let t = c.currency_of.ensures.found _ there in
    (t.0, t.1)
