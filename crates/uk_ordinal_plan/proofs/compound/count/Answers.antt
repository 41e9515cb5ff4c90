-- `uk_ordinal_plan::compound::count` meets its contract.
-- Assumes nothing.
use Rattle.std.proofs.Common.{arith}
use Rattle.settings.specs.Chosen.{numbers_of}
use Rattle.uk_ordinal.specs.Ordinal.{compound_digits}
use Rattle.uk_ordinal_plan.proofs.Laws.{run_one, rerun, run_more}
use Rattle.uk_ordinal_plan.proofs.Cases.{num_hundred}
use Rattle.uk_ordinal_plan.proofs.compound.count.Goals as goal

pub returns-else-h-eq0 : goal.returns-else-h-eq0
returns-else-h-eq0 g c =
    let a = c.args in
    rerun 3 (run_more 3 (run_one _ (omega arith) c.push.ensures c.compound_hundred.ensures) c.count_low-else-h-eq0.ensures (omega arith)) (omega arith)
    (num_hundred (compound_digits (numbers_of a.settings)) a.h a.t a.u c.if-h-eq0.false)
