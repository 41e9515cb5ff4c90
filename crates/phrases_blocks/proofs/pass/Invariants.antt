-- A line is held at each turn, and each turn reads at least a byte of what is left of the block, since out has room for an answer.
-- Assumes nothing.
use Rattle.std.proofs.Common.{◌≡◌, ◌≤◌, length, true}
use Rattle.phrases_lines.specs.Held.{is_line}
use Rattle.phrases_blocks.proofs.pass.Given as goal

abbrev pub invariant-loop-rest : goal.invariant-loop-rest
invariant-loop-rest l = (length l.line ≤ 513) × (is_line l.line ≡ true)

abbrev pub decreases-loop-rest : goal.decreases-loop-rest
decreases-loop-rest l = length l.rest
