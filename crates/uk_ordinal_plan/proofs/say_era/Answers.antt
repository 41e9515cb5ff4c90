-- `uk_ordinal_plan::say_era` meets its contract.
-- Assumes nothing.
use Rattle.std.proofs.Common.{arith}
use Rattle.plan.proofs.Tells.{tell}
use Rattle.uk.specs.Pool.{uk_pool}
use Rattle.uk_ordinal_plan.proofs.say_era.Goals as goal

pub returns-then-early : goal.returns-then-early
returns-then-early g c =
    rw (c.if-early.true, ← c.before_era.ensures, ← c.our_era.ensures) (tell 2 (c.push_word.ensures uk_pool) (c.push_word-then-early.ensures uk_pool) (omega arith))
