-- `uk_plan::plan_cardinal` meets its contract.
-- Assumes nothing.
use Rattle.std.proofs.Common.{arith}
use Rattle.plan.proofs.Tells.{told_phrase}
use Rattle.cardinals.specs.Cardinal.{cardinal_phrase}
use Rattle.uk.specs.Ukrainian.{ukrainian}
use Rattle.uk_plan.proofs.plan_cardinal.Goals as goal

pub returns : goal.returns
unfolding cardinal_phrase ukrainian
returns c =
    let told = rw c.clear.ensures at c.say_cardinal.ensures in
    let x = c.args.number.now in
    (omega (arith, told.added.near, x.size, x.highest.fits), told_phrase told)
