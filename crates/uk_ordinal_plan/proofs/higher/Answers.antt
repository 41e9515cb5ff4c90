-- `uk_ordinal_plan::higher` meets its contract.
-- Assumes nothing.
use Rattle.std.proofs.Common.{arith, set}
use Rattle.settings.specs.Chosen.{numbers_of}
use Rattle.plan.proofs.Tells.{quiet, retell}
use Rattle.uk.specs.Ukrainian.{ukrainian}
use Rattle.cardinals.specs.Listed.{listed}
use Rattle.cardinals.proofs.Arrays.{listed_high}
use Rattle.uk_ordinal.specs.Ordinal.{in_nominative}
use Rattle.uk_ordinal_plan.proofs.Orders.{zeros_set}
use Rattle.uk_ordinal_plan.proofs.higher.Goals as goal

pub returns-then-lone : goal.returns-then-lone
unfolding listed
returns-then-lone g c =
    let a = c.args in
    retell 110 (quiet 110 _) (omega arith)
    (listed_high (ukrainian (in_nominative (numbers_of a.settings))) (set a.number.now.groups a.order 0) 0 22 (c.requires.zero_from c.if-lone.true) (omega arith))

pub returns : goal.returns
returns g c =
    let a = c.args in
    let top = a.number.now.highest in
    retell 110 (rw c.in_nominative.ensures at c.say_groups.ensures) (omega arith)
    (listed_high (ukrainian (in_nominative (numbers_of a.settings))) _ a.number.now.orders 22 (zeros_set a.number.now.groups a.number.now.orders a.order top.zeros) (omega (arith, top.fits, a.number.now.size)))
