-- The place with the item number is freed, if there is one.
-- Assumes nothing.
use Rattle.std.proofs.Common.{◌≡◌, None, Some, Err, rules}
use Rattle.base.specs.declared.Refusal.TheVariants.{NotHeld}
use Rattle.tally_calls.proofs.Decisions.{none_under, decides_removed, decides_not_held}
use Rattle.tally_calls.proofs.deciding.remove_item.Goals as goal

pub returns-in_err-at : goal.returns-in_err-at
returns-in_err-at c =
    let a = c.args in
    let refused : c.from_residual.result ≡ Err NotHeld = search rules in
    let nowhere : c.find.result ≡ None = search rules in
    rw refused (decides_not_held a.settings a.currency.place a.tally.now a.item a.out.now (none_under a.settings a.currency.place a.tally.now a.item (c.find.ensures.none nowhere)))

pub returns : goal.returns
returns c =
    let a = c.args in
    let p = c.requires in
    let there : c.find.result ≡ Some c.in_ok-at.at = search rules in
    decides_removed a.settings a.currency.place a.tally.now a.item _ _ _ _ _ a.currency.known p.1 p.0 c.given_by-given.ensures c.if-item-eq0.false (c.find.ensures.found _ there) c.weigh.ensures.weighs c.weigh.ensures.stored
