-- `figures::refusals::at_most` meets its contract: the shorter text is less, and of two of one length the first digit that differs decides.
use Rattle.std.proofs.Common.{sym, ◌∙◌, arith, le-leb}
use borrow.Author.Tests.{lt-leb}
use Rattle.figures.proofs.Laws.Compare.{shorter, digits_order}
use Rattle.figures.proofs.Laws.Plain.{plain_digits}
use Rattle.std.specs.Cmp.{ranked}
use Rattle.figures.proofs.refusals.at_most.Goals as goal

pub returns-in-Less : goal.returns-in-Less
returns-in-Less c =
    let s = c.args.s.now in
    let l = c.args.l.now in
    sym (le-leb _ _ (omega (arith, shorter s l c.requires.s_value c.requires.l_value (ranked _ _ _ c.in-Less.ensures))))

pub returns-in-Equal : goal.returns-in-Equal
returns-in-Equal c =
    let s = c.args.s.now in
    let l = c.args.l.now in
    c.le.ensures ∙ digits_order s l (plain_digits s c.requires.s_value) (plain_digits l c.requires.l_value) (ranked _ _ _ c.in-Equal.ensures)

pub returns-in-Greater : goal.returns-in-Greater
returns-in-Greater c =
    let s = c.args.s.now in
    let l = c.args.l.now in
    sym (lt-leb _ _ (shorter l s c.requires.l_value c.requires.s_value (ranked _ _ _ c.in-Greater.ensures)))
