-- `uk_money_plan::say_name` meets its contract: the adjective if any, and the noun, each in the form that agrees.
-- Assumes nothing.
use Rattle.std.proofs.Common.{rules, arith}
use Rattle.settings.specs.Chosen.{numbers_of}
use Rattle.plan.proofs.Tells.{tell, retell}
use Rattle.uk_money_plan.proofs.Forms.{name_is}
use Rattle.uk_money_plan.proofs.say_name.Goals as goal

pub say_form-requires : goal.say_form-requires
say_form-requires g c =
    let near = (c.say_adjective.ensures _ c.agreed_place-place.ensures.1).added.near in
    (search rules, omega arith)

pub returns : goal.returns
returns g c name row =
    let a = c.args in
    let p = c.agreed_place-place in
    retell 4 (tell 4 (c.say_adjective.ensures _ p.ensures.1) c.say_form.ensures (omega arith)) (omega arith)
    (name_is (numbers_of a.settings) name a.row.now row a.n p.result c.ending.result p.ensures.1 (rw c.from-class.ensures at c.ending.ensures))
