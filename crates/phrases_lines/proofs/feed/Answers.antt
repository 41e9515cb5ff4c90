-- `phrases_lines::feed` meets its contract.
-- Assumes nothing.
use Rattle.std.proofs.Common.{◌-◌, length, rules, arith}
use Rattle.phrases_lines.proofs.Laws.{one_more_lem}
use Rattle.phrases_lines.proofs.feed.Goals as goal

pub loop-at-preserved : goal.loop-at-preserved
loop-at-preserved c =
    let l = c.loop-at in
    let t = c.take_byte-used in
    record {
      in_out = search rules;
      short = t.ensures.bound.0;
      line_so_far = t.ensures.line_after;
      answered = one_more_lem _ _ l.out t.new.out _ _ l.at l.used (length l.out - l.used) t.result _ _ c.loop-at-test.true l.invariant.in_out (omega arith) (search rules) (search rules) l.invariant.answered t.ensures.answered;
      unwritten = λ z. absurd (omega arith);
    }
