-- `words::pass` meets its contract.
use Rattle.std.proofs.Common.{rules}
use Rattle.base.specs.Front.{passed}
use Rattle.words.proofs.pass.Goals as goal

pub returns : goal.returns
unfolding passed
returns c = let a = c.then_some.ensures in let b = c.begins.ensures in let p = c.part-w.ensures in search rules
