-- `fr_plan::plan_words` meets its contract.
-- Assumes nothing.
use Prim.Native.Nat.{◌≤◌}
use mathlib.Core.Path.{sym, ap, ◌∙◌}
use lib.ListN.{length}
use native.Mathlib.Omega.{arith}
use borrow.Author.Tests.{eqb-true, eqb-false}
use Rattle.settings.specs.Chosen.{french_numbers_of}
use Rattle.fr.proofs.Tables.{zéro, moins}
use Rattle.fr_plan.proofs.Appends.{after, likewise, as_word}
use Rattle.fr_plan.proofs.Cases.{card_zero, card_minus, card_plain}
use Rattle.fr_plan.proofs.plan_words.Goals.{then-negative, else-negative}
use Rattle.fr_plan.proofs.plan_words.Goals as goal

pub join-requires : goal.join-requires
join-requires c = (zéro.known, omega (arith, ap length c.clear.ensures))

pub returns-then-is : goal.returns-then-is
returns-then-is c =
    let a = c.args in
    let zero = eqb-true _ _ (sym c.is.ensures ∙ c.if-is.true) in
    likewise 171 (as_word (rw c.clear.ensures at c.join.ensures) zéro.says) (omega arith) (card_zero (french_numbers_of a.settings) a.number.now a.negative zero)

pub join-requires-then-negative : goal.join-requires-then-negative
join-requires-then-negative c = (moins.known, omega (arith, ap length c.clear.ensures))

pub returns : goal.returns
returns c =
    let a = c.args in
    let S = french_numbers_of a.settings in
    let x = a.number.now in
    let few : x.orders ≤ 34 = omega (arith, x.size, x.highest.fits) in
    let some = eqb-false _ _ (sym c.is.ensures ∙ c.if-is.false) in
    elim c.if-negative.branch [
      | then-negative w ↦
          likewise 171 (after 171 (as_word (rw c.clear.ensures at w.join-then-negative.ensures) moins.says) (rw w.plan-is at c.groups.ensures) (omega arith)) (omega arith)
          (card_minus S x a.negative some w.if-negative.true)
      | else-negative w ↦
          likewise 171 (rw (w.plan-is, c.clear.ensures) at c.groups.ensures) (omega arith)
          (card_plain S x a.negative some w.if-negative.false)
    ]
