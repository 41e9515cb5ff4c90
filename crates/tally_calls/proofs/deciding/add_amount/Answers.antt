-- The text's amount is put in the first free place, unless there is none or the last item number is given.
-- Assumes nothing.
use Rattle.std.proofs.Common.{◌≡◌, None, Some, Err, sym, ◌∙◌, rules}
use Rattle.base.specs.declared.Refusal.TheVariants.{TallyFull}
use Rattle.tally_calls.proofs.Decisions.{full_last, full_places, decides_added, decides_full}
use Rattle.tally_calls.proofs.deciding.add_amount.Goals as goal

pub returns-in_err-at : goal.returns-in_err-at
returns-in_err-at c =
    let a = c.args in
    let refused : c.from_residual.result ≡ Err TallyFull = search rules in
    let nowhere : c.find.result ≡ None = search rules in
    rw refused (decides_full a.settings a.currency.place a.tally.now a.text.now c.requires.1 a.out.now (full_places a.settings a.currency.place a.tally.now (c.find.ensures.none nowhere)))

pub returns-then-given : goal.returns-then-given
returns-then-given c =
    let a = c.args in
    decides_full a.settings a.currency.place a.tally.now a.text.now c.requires.1 a.out.now (full_last a.settings a.currency.place a.tally.now (sym c.given_by-given.ensures ∙ c.if-given.true))

pub returns : goal.returns
returns c =
    let a = c.args in
    let p = c.requires in
    let free : c.find.result ≡ Some c.in_ok-at.at = search rules in
    decides_added a.settings a.currency.place a.tally.now a.text.now p.1 _ _ _ _ _ _ a.currency.known p.2 p.0 c.given_by-given.ensures (c.find.ensures.found _ free) c.amount_of-place.ensures c.if-given.false c.weigh.ensures.weighs c.weigh.ensures.stored
