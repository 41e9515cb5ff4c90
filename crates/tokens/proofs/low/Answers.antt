-- `tokens::low` meets its contract.
use Rattle.tokens.proofs.Turns.{low_eight}
use Rattle.tokens.proofs.low.Goals as goal

pub returns : goal.returns
returns c = low_eight c.args.w
