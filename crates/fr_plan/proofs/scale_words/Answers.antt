-- `fr_plan::scale_words` meets its contract.
-- Assumes nothing.
use native.Mathlib.Omega.{arith}
use Rattle.fr_plan.proofs.Appends.{nothing, likewise, as_word}
use Rattle.fr_plan.proofs.Cases.{scale_none, scale_some}
use Rattle.fr_plan.proofs.scale_words.Goals as goal

pub returns-then-order-ne0 : goal.returns-then-order-ne0
returns-then-order-ne0 c = likewise 1 (as_word c.join.ensures c.scale.ensures.says) (omega arith) (scale_some _ c.args.order c.args.g c.if-order-ne0.true)

pub returns-else-order-ne0 : goal.returns-else-order-ne0
returns-else-order-ne0 c = likewise 1 (nothing 1 _) (omega arith) (scale_none _ c.args.order c.args.g c.if-order-ne0.false)
