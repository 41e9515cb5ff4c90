-- `uk_plan::say_cardinal` meets its contract: zero's word, or the sign and the groups.
-- Assumes nothing.
use Rattle.std.proofs.Common.{◌+◌, ◌*◌, refl, sym, ◌∙◌, rules, arith}
use borrow.Author.Tests.{eqb-true, eqb-false}
use Rattle.settings.specs.Chosen.{numbers_of}
use Rattle.figures.specs.Groups.{total}
use Rattle.plan.proofs.Tells.{tell, retell}
use Rattle.uk.specs.Pool.{uk_pool}
use Rattle.uk.specs.Ukrainian.{ukrainian}
use Rattle.cardinals.proofs.Numbers.{cardinal_zero}
use Rattle.cardinals.proofs.Arrays.{cardinal_listed}
use Rattle.uk_plan.proofs.say_cardinal.Goals as goal

pub returns-then-is : goal.returns-then-is
unfolding ukrainian
returns-then-is g c =
    let a = c.args in
    let n = total a.number.now.groups in
    retell _ (c.push_word.ensures uk_pool) (omega arith)
    (rw c.zero.ensures (sym (cardinal_zero (ukrainian (numbers_of a.settings)) a.negative n (eqb-true n 0 (sym c.is.ensures ∙ c.if-is.true)))))

pub say_groups-requires : goal.say_groups-requires
say_groups-requires g c =
    let near = (c.sign.ensures c.args.settings).added.near in
    let x = c.args.number.now in
    (search rules, (omega (arith, x.size, x.highest.fits), omega arith))

pub returns : goal.returns
unfolding ukrainian
returns g c =
    let a = c.args in
    let x = a.number.now in
    retell (5 * x.orders + 1) (tell (5 * x.orders + 1) (c.sign.ensures a.settings) c.say_groups.ensures (omega arith)) (omega arith)
    (cardinal_listed (ukrainian (numbers_of a.settings)) x a.negative refl (eqb-false (total x.groups) 0 (sym c.is.ensures ∙ c.if-is.false)))
