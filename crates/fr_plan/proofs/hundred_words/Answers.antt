-- `fr_plan::hundred_words` meets its contract.
-- Assumes nothing.
use native.Mathlib.Omega.{arith}
use Rattle.fr.proofs.Tables.{cent}
use Rattle.fr_plan.proofs.Appends.{nothing, likewise, as_word}
use Rattle.fr_plan.proofs.Cases.{hundred_none, hundred_one, hundred_some}
use Rattle.fr_plan.proofs.hundred_words.Goals as goal

pub returns-in-0 : goal.returns-in-0
returns-in-0 c = likewise 1 (nothing 1 _) (omega arith) (hundred_none _ c.args.order c.args.below c.args.h c.in-0.is)

pub join-requires : goal.join-requires
join-requires c = (cent.known, omega arith)

pub returns-in-1 : goal.returns-in-1
returns-in-1 c = likewise 1 (as_word c.join.ensures cent.says) (omega arith) (hundred_one _ c.args.order c.args.below c.args.h c.in-1.is)

pub returns-in_default : goal.returns-in_default
returns-in_default c =
    likewise 1 (as_word c.join-in_default.ensures c.hundreds.ensures.says) (omega arith) (hundred_some _ c.args.order c.args.below c.args.h (λ z. omega (arith, c.in_default)) (λ z. omega (arith, c.in_default)))
