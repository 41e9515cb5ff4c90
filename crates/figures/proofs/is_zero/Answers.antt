-- `figures::is_zero` meets its contract: a well formed text is zero's where it begins with '0'.
use Rattle.figures.proofs.Laws.Sign.{zero_first}
use Rattle.figures.proofs.is_zero.Goals as goal

pub returns : goal.returns
returns c = zero_first c.args.s.now c.requires
