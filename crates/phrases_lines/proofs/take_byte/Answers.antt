-- `phrases_lines::take_byte` meets its contract: a line's end, and a byte that joins the line, or one of a line that is too long.
-- Assumes nothing.
use Rattle.std.proofs.Common.{refl}
use Rattle.phrases_lines.specs.Held.{is_line}
use Rattle.phrases_lines.proofs.Laws.{ended, grown}
use Rattle.phrases_lines.proofs.take_byte.Goals as goal

pub returns-then-b-eq10-clause-answered : goal.returns-then-b-eq10-clause-answered
returns-then-b-eq10-clause-answered c =
    let b = c.bytes in
    ended c.args.line.now b.result.now b.ensures.value b.ensures.line c.args.b c.if-b-eq10.true _ _ _ _ c.answer_line-written.ensures.value c.clear.ensures

pub returns-clause-answered : goal.returns-clause-answered
returns-clause-answered c = grown c.args.line.now c.args.b c.push.ensures.line c.if-b-eq10.false _ c.push.ensures.value

pub returns-then-b-eq10-clause-line_after : goal.returns-then-b-eq10-clause-line_after
unfolding is_line
returns-then-b-eq10-clause-line_after c = rw c.clear.ensures refl
