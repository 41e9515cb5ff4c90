-- `fr_plan::groups` meets its contract.
-- Assumes nothing.
use Prim.Native.Nat.{◌*◌}
use native.Mathlib.Omega.{arith}
use Rattle.settings.specs.Chosen.{french_numbers_of}
use Rattle.cardinals.specs.Listed.{listed}
use Rattle.fr.specs.Rules.{french_joiner}
use Rattle.fr_plan.proofs.Appends.{nothing, after, likewise}
use Rattle.fr_plan.proofs.Cases.{groups_more}
use Rattle.fr_plan.proofs.+groups.Goals as goal

pub returns-then-n-eq0 : goal.returns-then-n-eq0
unfolding listed
returns-then-n-eq0 t c = rw c.if-n-eq0.true (nothing _ _)

pub returns : goal.returns
returns t c =
    let a = c.args in
    let S = french_numbers_of a.settings.now in
    likewise (5 * a.n) (after (5 * a.n) c.group.ensures c.groups.ensures (omega arith)) (omega arith) (groups_more S (french_joiner S) a.n a.gs.now c.if-n-eq0.false)
