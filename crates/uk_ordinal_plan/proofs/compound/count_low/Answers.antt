-- `uk_ordinal_plan::compound::count_low` meets its contract: a teen, or the tens and the unit if any.
-- Assumes nothing.
use Rattle.std.proofs.Common.{◌≡◌, ◌+◌, ◌-◌, ap, ◌∙◌, arith}
use Rattle.base.specs.Utf8.{form1}
use Rattle.settings.specs.Settings.{Settings}
use Rattle.settings.specs.Chosen.{numbers_of}
use Rattle.uk.specs.UkTables.{teens_flexions}
use Rattle.uk.specs.Ukrainian.{ukrainian_digits, teen_form}
use Rattle.uk_plan.proofs.Cases.{low_ten}
use Rattle.uk_ordinal.specs.Ordinal.{compound_digits}
use Rattle.uk_ordinal_plan.proofs.Laws.{run_one, rerun, run_more, run_ended}
use Rattle.uk_ordinal_plan.proofs.compound.count_low.Goals as goal

pub returns-in-1 : goal.returns-in-1
unfolding compound_digits ukrainian_digits teen_form
returns-in-1 g c =
    let e : 10 + c.args.u - 10 ≡ c.args.u = omega arith in
    let flexion = c.teen_ending.ensures ∙ ap (λ (S : Settings). form1 teens_flexions S.case) c.in_genitive.ensures in
    rw (c.in-1.is, e) (run_ended (run_more 2 (run_one _ (omega arith) c.push.ensures c.teen.ensures) (run_one _ (omega arith) c.push-in-1.ensures flexion) (omega arith)))

pub returns-in_default : goal.returns-in_default
returns-in_default g c =
    let a = c.args in
    rerun 2 (run_more 2 (run_one _ (omega arith) c.push-in_default.ensures c.compound_ten.ensures) c.count_unit-in_default.ensures (omega arith)) (omega arith)
    (low_ten (compound_digits (numbers_of a.settings)) a.t a.u (omega arith))
