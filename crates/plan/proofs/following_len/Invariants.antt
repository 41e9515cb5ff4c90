-- The length of the pieces up to the next one.
-- Assumes nothing.
use Rattle.std.proofs.Common.{◌≡◌, ◌*◌, ◌≤◌, length}
use Rattle.base.specs.Room.{longest_piece}
use Rattle.plan.proofs.Laws.{upto}
use Rattle.plan.proofs.following_len.Given as goal

abbrev pub invariant-loop-code : goal.invariant-loop-code
invariant-loop-code l = (l.n ≡ length (upto l.pool l.code-index l.plan)) × (l.n ≤ longest_piece * l.code-index)
