-- The extent of the pieces up to the next one.
-- Assumes nothing.
use Rattle.std.proofs.Common.{ℕ, ◌*◌, ◌≤◌, List}
use Rattle.base.specs.Room.{longest_piece}
use Rattle.words.specs.Extents.{SpacesCounted, Extends}
use Rattle.plan.proofs.Laws.{upto}
use Rattle.plan.proofs.measure.following_extent.Given as goal

abbrev pub invariant-loop-code : goal.invariant-loop-code
invariant-loop-code l = record {
  told : (pool : List ℕ) → SpacesCounted pool l.spaces.unspaced l.spaces.counts.now → Extends (upto pool l.code-index l.plan) l.extent;
  few : l.extent.spaces ≤ 256 * l.code-index;
  short : l.extent.length ≤ longest_piece * l.code-index;
}
