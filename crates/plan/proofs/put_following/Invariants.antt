-- The pieces up to the next one are written.
-- Assumes nothing.
use Rattle.std.proofs.Common.{◌≡◌, length}
use Rattle.base.specs.Buffer.{over}
use Rattle.plan.proofs.Laws.{upto}
use Rattle.plan.proofs.put_following.Given as goal

abbrev pub invariant-loop-code : goal.invariant-loop-code
invariant-loop-code l = (l.k ≡ length (upto l.pool l.code-index l.plan)) × (l.out ≡ over l.initial.out (upto l.pool l.code-index l.plan))
