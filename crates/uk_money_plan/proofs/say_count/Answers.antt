-- `uk_money_plan::say_count` meets its contract: the cardinal, then the name.
-- Assumes nothing.
use Rattle.std.proofs.Common.{◌+◌, ◌*◌, sym, arith}
use Rattle.plan.proofs.Tells.{tell}
use Rattle.settings.specs.Chosen.{numbers_of}
use Rattle.uk_money.specs.Money.{count_words}
use Rattle.uk_money_plan.proofs.Forms.{agrees_low}
use Rattle.uk_money_plan.proofs.say_count.Goals as goal

pub returns : goal.returns
unfolding count_words
returns g c name row =
    let a = c.args in
    let S = numbers_of a.settings.now in
    tell (5 * a.number.now.orders + 5) (rw (c.counted_in.ensures, sym row.gender) at c.say_cardinal.ensures) (rw (c.from.ensures, agrees_low S name a.number.now.groups) at (c.say_name.ensures name row)) (omega arith)
