-- `uk_ordinal_read::last_start` meets its contract.
-- Assumes nothing.
use Rattle.std.proofs.Common.{rules, arith}
use Rattle.std.proofs.lemmas.Grind.{common_steps}
use Rattle.uk_ordinal_read.proofs.Ends.{last_after, none_last}
use Rattle.uk_ordinal_read.proofs.last_start.Goals as goal

pub returns-in-Some : goal.returns-in-Some
returns-in-Some c = last_after c.args.s.now c.in-Some.space (search rules) (search rules) (λ k h l e. grind (arith, common_steps))

pub returns-in-None : goal.returns-in-None
returns-in-None c = none_last c.args.s.now (λ k h e. grind (arith, common_steps))
