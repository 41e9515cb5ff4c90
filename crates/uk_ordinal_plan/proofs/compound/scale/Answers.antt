-- `uk_ordinal_plan::compound::scale` meets its contract.
-- Assumes nothing.
use Rattle.std.proofs.Common.{refl, arith}
use Rattle.uk_ordinal_plan.proofs.Laws.{run_one, run_more}
use Rattle.uk_ordinal_plan.proofs.compound.scale.Goals as goal

pub returns : goal.returns
returns g c =
    run_more 3 (run_more 2 (run_one _ (omega arith) c.push.ensures c.scale.ensures) (run_one _ (omega arith) c.push-2.ensures c.adjective_n.ensures) (omega arith))
    (run_one _ (omega arith) c.push-3.ensures refl) (omega arith)
