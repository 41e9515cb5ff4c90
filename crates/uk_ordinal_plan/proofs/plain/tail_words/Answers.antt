-- `uk_ordinal_plan::plain::tail_words` meets its contract: the tens word if any, and a unit.
-- Assumes nothing.
use Rattle.std.proofs.Common.{arith}
use Rattle.settings.specs.Chosen.{numbers_of}
use Rattle.words.specs.Part.{part}
use Rattle.plan.proofs.Tells.{tell, retell}
use Rattle.uk.specs.Pool.{uk_pool}
use Rattle.uk_ordinal_plan.proofs.Cases.{tail_unit}
use Rattle.uk_ordinal_plan.proofs.plain.tail_words.Goals as goal

pub returns-else-u-eq0 : goal.returns-else-u-eq0
returns-else-u-eq0 g c =
    let a = c.args in
    retell 3 (tell 3 c.ten_word.ensures (c.push_ended-else-u-eq0.ensures uk_pool) (omega arith)) (omega arith)
    (rw c.unit_base.ensures (tail_unit (numbers_of a.settings) (part uk_pool a.ending) a.t a.u c.if-t-eq1.false c.if-u-eq0.false))
