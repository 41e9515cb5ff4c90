-- `groups::number::Number::of_group` meets its contract: the lowest group of a number below a thousand is the number, and the others are 0.
-- Assumes nothing.
use mathlib.Core.Path.{refl}
use Rattle.groups.proofs.Highest.{lone}
use Rattle.groups.proofs.number.Number.of_group.Goals as goal

pub invariant_of-result-clause-small : goal.invariant_of-result-clause-small
invariant_of-result-clause-small g c = (lone g.row.N c.args.group c.requires.0 c.requires.1).0

pub invariant_of-result-clause-highest : goal.invariant_of-result-clause-highest
invariant_of-result-clause-highest g c = (lone g.row.N c.args.group c.requires.0 c.requires.1).1

pub returns : goal.returns
returns g c = ((lone g.row.N c.args.group c.requires.0 c.requires.1).2, refl)
