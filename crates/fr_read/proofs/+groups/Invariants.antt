-- The order falls.
-- Assumes nothing.
use Rattle.fr_read.proofs.+groups.Given as goal

abbrev pub decreases-groups : goal.decreases-groups
decreases-groups l = l.k
