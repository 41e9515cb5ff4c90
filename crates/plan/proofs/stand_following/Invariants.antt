-- All depends on the pieces from the next one on, and on the rest of the text.
-- Assumes nothing.
use Rattle.std.proofs.Common.{◌≡◌, drop}
use Rattle.plan.specs.Plan.{pieces}
use Rattle.plan.specs.Stands.{stands}
use Rattle.plan.proofs.stand_following.Given as goal

abbrev pub invariant-loop-code : goal.invariant-loop-code
invariant-loop-code l = stands (pieces l.pool (drop l.code-index l.plan)) l.rest ≡ stands (pieces l.pool l.plan) l.s
