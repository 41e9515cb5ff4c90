-- `uk_ordinal_plan::compound::count_unit` meets its contract.
-- Assumes nothing.
use Rattle.std.proofs.Common.{arith}
use Rattle.settings.specs.Chosen.{numbers_of}
use Rattle.uk_ordinal.specs.Ordinal.{compound_digits}
use Rattle.uk_ordinal_plan.proofs.Laws.{run_none, run_one, rerun}
use Rattle.uk_ordinal_plan.proofs.Cases.{unit_more}
use Rattle.uk_ordinal_plan.proofs.compound.count_unit.Goals as goal

pub returns-in-0 : goal.returns-in-0
returns-in-0 g c = rw c.in-0.is (run_none _ 1 _)

pub returns-in-1 : goal.returns-in-1
unfolding compound_digits
returns-in-1 g c = rw c.in-1.is (run_one _ (omega arith) c.push.ensures c.one_base.ensures)

pub returns-in_default : goal.returns-in_default
returns-in_default g c =
    let a = c.args in
    rerun 1 (run_one _ (omega arith) c.push-in_default.ensures (rw c.in_genitive.ensures at c.unit.ensures)) (omega arith) (unit_more (numbers_of a.settings) a.u (omega arith))
