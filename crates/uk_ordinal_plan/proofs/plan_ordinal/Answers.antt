-- `uk_ordinal_plan::plan_ordinal` meets its contract.
-- Assumes nothing.
use Rattle.uk_ordinal_plan.proofs.Laws.{spoken_phrase}
use Rattle.uk_ordinal_plan.proofs.plan_ordinal.Goals as goal

pub returns : goal.returns
returns c =
    let spoken = rw c.clear.ensures at c.say_ordinal.ensures in
    (spoken.said.added.near, spoken_phrase spoken)
