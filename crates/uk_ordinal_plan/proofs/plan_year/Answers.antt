-- `uk_ordinal_plan::plan_year` meets its contract.
-- Assumes nothing.
use Rattle.std.proofs.Common.{arith}
use Rattle.plan.proofs.Tells.{tell}
use Rattle.uk.specs.Pool.{uk_pool}
use Rattle.uk_ordinal_plan.proofs.Laws.{told, speak, spoken_phrase}
use Rattle.uk_ordinal_plan.proofs.plan_year.Goals as goal

pub returns : goal.returns
returns c =
    let ordinal = rw c.clear.ensures at c.say_ordinal.ensures in
    let year = rw c.year_word.ensures at (tell 3 (c.push_word.ensures uk_pool) c.say_era.ensures (omega arith)) in
    let spoken = speak 119 ordinal (told year) (omega arith) in
    (spoken.said.added.near, spoken_phrase spoken)
