-- `groups::number::Number::of_digits` meets its contract.
-- Assumes nothing.
use native.Mathlib.Omega.{arith}
use Rattle.groups.proofs.Held.{held}
use Rattle.groups.proofs.number.Number.of_digits.Goals as goal

pub invariant_of-result-clause-small : goal.invariant_of-result-clause-small
invariant_of-result-clause-small g c = (held g.row.N c.args.s.now _ _ c.requires.digits (omega (arith, c.requires.size)) c.groups_of.ensures c.count.ensures).below

pub invariant_of-result-clause-highest : goal.invariant_of-result-clause-highest
invariant_of-result-clause-highest g c = (held g.row.N c.args.s.now _ _ c.requires.digits (omega (arith, c.requires.size)) c.groups_of.ensures c.count.ensures).top

pub returns : goal.returns
returns g c = (held g.row.N c.args.s.now _ _ c.requires.digits (omega (arith, c.requires.size)) c.groups_of.ensures c.count.ensures).number
