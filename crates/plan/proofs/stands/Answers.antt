-- The first text, and then the pieces that follow it.
-- Assumes nothing.
use Rattle.std.proofs.Common.{rules}
use Rattle.plan.proofs.Standing.{none_is, first_not, first_on}
use Rattle.plan.proofs.stands.Goals as goal

pub returns-in-empty : goal.returns-in-empty
returns-in-empty c = search (rules, none_is)

pub returns-in-Some : goal.returns-in-Some
returns-in-Some c = search (rules, first_on)

pub returns-in-None : goal.returns-in-None
returns-in-None c = search (rules, first_not)
