-- `uk_plan::group` meets its contract.
-- Assumes nothing.
use Rattle.std.proofs.Common.{arith}
use Rattle.settings.specs.Chosen.{numbers_of}
use Rattle.plan.proofs.Tells.{tell, retell}
use Rattle.uk_plan.proofs.Cases.{group_some}
use Rattle.uk_plan.proofs.group.Goals as goal

pub returns : goal.returns
returns g c =
    let a = c.args in
    retell 5 (tell 5 c.hundred_word.ensures (tell 4 c.low_words.ensures c.noun_word.ensures (omega arith)) (omega arith)) (omega arith)
    (rw (c.from-n.ensures, c.at_order.ensures) (group_some (numbers_of a.settings) a.order a.g c.if-g-eq0.false))
