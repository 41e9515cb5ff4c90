-- The measure of `uk_read::groups`: the order.
-- Assumes nothing.
use Rattle.uk_read.proofs.+groups.Given as goal

abbrev pub decreases-groups : goal.decreases-groups
decreases-groups l = l.k
