-- The number of orders falls.
-- Assumes nothing.
use Rattle.fr_plan.proofs.+groups.Given as goal

abbrev pub decreases-groups : goal.decreases-groups
decreases-groups l = l.n
