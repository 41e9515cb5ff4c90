-- `words::moves::same_ends` meets its contract.
use Rattle.std.proofs.Common.{◌-◌, length, ◌∙◌, arith}
use Rattle.words.proofs.Pieces.{apart, last_on}
use Rattle.words.proofs.moves.same_ends.Goals as goal

pub returns-then-same_part : goal.returns-then-same_part
returns-then-same_part g c =
    last_on c.args.w.now c.args.s.now g.row.N (length c.args.w.now - g.row.N) g.row.N _ (c.same_part.ensures.holds c.if-same_part.true) (omega arith) (omega arith) c.same_part-then-same_part.ensures

pub returns-else-same_part : goal.returns-else-same_part
returns-else-same_part g c =
    c.if-same_part.false ∙ apart c.args.w.now c.args.s.now 0 g.row.N (omega arith) (c.same_part.ensures.fails c.if-same_part.false)
