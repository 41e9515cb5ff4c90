-- A line is held at each turn.
-- Assumes nothing.
use Rattle.std.proofs.Common.{◌≡◌, ◌≤◌, length, true}
use Rattle.phrases_lines.specs.Held.{is_line}
use Rattle.phrases_blocks.proofs.passes.Given as goal

abbrev pub invariant-loop : goal.invariant-loop
invariant-loop l = (length l.line ≤ 513) × (is_line l.line ≡ true)
