-- The number of orders falls.
-- Assumes nothing.
use Rattle.uk_plan.proofs.+groups.Given as goal

abbrev pub decreases-groups : goal.decreases-groups
decreases-groups g l = l.n
