-- `uk_plan::groups` meets its contract: the group of the highest order, then those below it.
-- Assumes nothing.
use Rattle.std.proofs.Common.{◌*◌, arith}
use Rattle.settings.specs.Chosen.{numbers_of}
use Rattle.plan.proofs.Tells.{quiet, tell, retell}
use Rattle.uk.specs.Ukrainian.{ukrainian}
use Rattle.cardinals.specs.Listed.{listed}
use Rattle.cardinals.proofs.Arrays.{listed_more}
use Rattle.uk_plan.proofs.+groups.Goals as goal

pub returns-then-n-eq0 : goal.returns-then-n-eq0
unfolding listed
returns-then-n-eq0 g t c = rw c.if-n-eq0.true (quiet _ _)

pub returns : goal.returns
returns g t c =
    let a = c.args in
    retell (5 * a.n) (tell (5 * a.n) c.group.ensures c.groups.ensures (omega arith)) (omega arith)
    (listed_more (ukrainian (numbers_of a.settings.now)) a.gs.now a.n c.if-n-eq0.false)
