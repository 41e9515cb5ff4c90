-- `uk_money_plan::say_fraction` meets its contract.
-- Assumes nothing.
use Rattle.std.proofs.Common.{rules, arith}
use Rattle.uk_money_plan.proofs.say_fraction.Goals as goal

pub say_count-requires : goal.say_count-requires
say_count-requires g c =
    let r = c.fraction_row-row.ensures in
    (search rules, ((r.class_below, r.gender_below), omega (arith, c.of_group-number.ensures.1)))

pub returns : goal.returns
returns g c =
    let n = c.of_group-number.ensures in
    rw (n.1, n.0) at (c.say_count.ensures _ c.fraction_row-row.ensures)
