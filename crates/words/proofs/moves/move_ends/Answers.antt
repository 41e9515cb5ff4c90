-- `words::moves::move_ends` meets its contract.
use Rattle.words.proofs.Pieces.{ends}
use Rattle.words.proofs.moves.move_ends.Goals as goal

pub returns : goal.returns
returns g c = ends c.args.w.now c.args.out.now _ _ g.row.N c.requires.0 c.requires.1 c.move_part.ensures c.move_part-2.ensures
