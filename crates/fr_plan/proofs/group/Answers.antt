-- `fr_plan::group` meets its contract.
-- Assumes nothing.
use mathlib.Core.Path.{◌≡◌, sym, ◌∙◌}
use native.Mathlib.Omega.{arith}
use Rattle.settings.specs.Chosen.{french_numbers_of}
use Rattle.fr.specs.Rules.{french_joiner}
use Rattle.fr_plan.proofs.Appends.{nothing, after, likewise}
use Rattle.fr_plan.proofs.Cases.{group_none, group_bare, group_full}
use Rattle.fr_plan.proofs.group.Goals.{then-not-is_bare, else-not-is_bare}
use Rattle.fr_plan.proofs.group.Goals as goal

pub returns-then-g-eq0 : goal.returns-then-g-eq0
returns-then-g-eq0 c = let S = french_numbers_of c.args.settings in likewise 5 (nothing 5 _) (omega arith) (group_none S (french_joiner S) c.args.order c.args.g c.if-g-eq0.true)

pub returns : goal.returns
returns c =
    let a = c.args in
    let n = c.from-n.result in
    let S = french_numbers_of a.settings in
    let z : n ≡ 0 → ⊥ = λ z. c.if-g-eq0.false (sym c.from-n.ensures ∙ z) in
    rw (← c.from-n.ensures)
    (elim c.if-not-is_bare.branch [
      | then-not-is_bare w ↦
          likewise 5 (after 5 w.hundred_words.ensures (after 4 w.low_words.ensures (rw w.plan-is at c.scale_words.ensures) (omega arith)) (omega arith)) (omega arith)
          (group_full S (french_joiner S) a.order n z (sym w.if-not-is_bare.ensures))
      | else-not-is_bare w ↦
          likewise 5 (rw w.plan-is at c.scale_words.ensures) (omega arith) (group_bare S (french_joiner S) a.order n z (sym w.if-not-is_bare.ensures))
    ])
