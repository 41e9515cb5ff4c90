-- `fr_plan::low_words` meets its contract.
-- Assumes nothing.
use native.Mathlib.Omega.{arith}
use Rattle.settings.specs.Chosen.{french_numbers_of}
use Rattle.fr_plan.proofs.Appends.{nothing, likewise, as_word}
use Rattle.fr_plan.proofs.Cases.{teen_low, none_low, unit_low}
use Rattle.fr_plan.proofs.low_words.Goals as goal

pub returns-then-t-eq1 : goal.returns-then-t-eq1
returns-then-t-eq1 c =
    let a = c.args in
    likewise 3 (as_word c.join.ensures c.teen.ensures.says) (omega arith) (teen_low (french_numbers_of a.settings) a.order a.t a.u c.if-t-eq1.true)

pub returns-then-u-ne0 : goal.returns-then-u-ne0
returns-then-u-ne0 c =
    let a = c.args in
    likewise 3 (as_word c.join-then-u-ne0.ensures c.unit.ensures.says) (omega arith) (unit_low (french_numbers_of a.settings) a.order a.t a.u c.if-t-gt1.false c.if-t-eq1.false c.if-u-ne0.true)

pub returns-else-u-ne0 : goal.returns-else-u-ne0
returns-else-u-ne0 c =
    let a = c.args in
    likewise 3 (nothing 3 _) (omega arith) (none_low (french_numbers_of a.settings) a.order a.t a.u c.if-t-gt1.false c.if-t-eq1.false c.if-u-ne0.false)
