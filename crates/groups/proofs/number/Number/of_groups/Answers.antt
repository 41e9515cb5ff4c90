-- `groups::number::Number::of_groups` meets its contract.
-- Assumes nothing.
use Rattle.groups.proofs.number.Number.of_groups.Goals as goal

pub invariant_of-result-clause-small : goal.invariant_of-result-clause-small
invariant_of-result-clause-small g c = c.requires.small

pub invariant_of-result-clause-highest : goal.invariant_of-result-clause-highest
invariant_of-result-clause-highest g c = c.top.ensures.0
