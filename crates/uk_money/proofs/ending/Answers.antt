use Rattle.uk_money.proofs.Names.{ending_at}
use Rattle.uk_money.proofs.ending.Goals as goal

pub returns : goal.returns
returns c = ending_at _ _ c.requires.0 c.requires.1
