-- `uk_plan::low_words` meets its contract: the tens word and the unit word if any.
-- Assumes nothing.
use Rattle.std.proofs.Common.{arith}
use Rattle.settings.specs.Chosen.{numbers_of}
use Rattle.plan.proofs.Tells.{tell, retell}
use Rattle.uk.specs.Pool.{uk_pool}
use Rattle.uk.specs.Ukrainian.{ukrainian_digits}
use Rattle.uk_plan.proofs.Cases.{low_ten}
use Rattle.uk_plan.proofs.low_words.Goals as goal

pub returns-in_default : goal.returns-in_default
unfolding ukrainian_digits
returns-in_default g c =
    let a = c.args in
    retell 2 (tell 2 (c.push_word.ensures uk_pool) c.unit_word-in_default.ensures (omega arith)) (omega arith)
    (rw c.ten.ensures (low_ten (ukrainian_digits (numbers_of a.settings)) a.t a.u (omega arith)))
