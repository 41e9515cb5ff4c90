-- A line is held, the first bytes of the block are answered, and nothing was written before the first byte was read.
-- Assumes nothing.
use Rattle.std.proofs.Common.{◌≡◌, ◌≤◌, length, take, true}
use Rattle.phrases_lines.specs.Held.{is_line}
use Rattle.phrases_lines.specs.Program.{Answered}
use Rattle.phrases_lines.proofs.feed.Given as goal

abbrev pub invariant-loop-at : goal.invariant-loop-at
invariant-loop-at l = record {
  in_out : l.used ≤ length l.out;
  short : length l.line ≤ 513;
  line_so_far : is_line l.line ≡ true;
  answered : Answered l.initial.line (take l.at l.block) (take l.used l.out) l.line;
  unwritten : l.at ≡ 0 → l.used ≡ 0;
}
