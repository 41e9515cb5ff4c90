-- `uk_money_plan::plan_money` meets its contract: a whole amount, hundredths alone, or both.
-- Assumes nothing.
use Rattle.std.proofs.Common.{◌≡◌, sym, ◌∙◌, arith}
use borrow.Author.Tests.{eqb-true, eqb-false}
use Rattle.settings.specs.Chosen.{numbers_of}
use Rattle.figures.specs.Groups.{total}
use Rattle.plan.proofs.Tells.{tell, told_phrase}
use Rattle.uk_money.specs.Rows.{currency_at}
use Rattle.uk_money_plan.proofs.Forms.{whole_is_lem, part_is, both_are}
use Rattle.uk_money_plan.proofs.plan_money.Goals as goal
use Rattle.uk_money_plan.proofs.plan_money.Goals.{then-hundredths-eq0, then-hundredths-eq0-via-then-hundredths-eq0, then-hundredths-eq0-via-else-hundredths-eq0+then-not-is, else-hundredths-eq0+else-not-is}

pub returns-then-hundredths-ne0 : goal.returns-then-hundredths-ne0
returns-then-hundredths-ne0 c =
    let a = c.args in
    let S = numbers_of a.settings in
    let n = total a.whole.now.groups in
    elim c.if-hundredths-eq0.branch [
      | then-hundredths-eq0 w ↦
          let some : n ≡ 0 → ⊥ =
          elim w.then-hundredths-eq0.branch [
            | then-hundredths-eq0-via-then-hundredths-eq0 v ↦ absurd (c.if-hundredths-ne0.true v.if-hundredths-eq0.true)
            | then-hundredths-eq0-via-else-hundredths-eq0+then-not-is v ↦ eqb-false n 0 (sym v.is.ensures ∙ v.if-not-is.true)
          ] in
          let told = rw c.clear.ensures at (tell 50 w.say_main.ensures (rw w.plan-is at c.say_fraction.ensures) (omega arith)) in
          (told.added.near, told_phrase told ∙ both_are S (currency_at a.currency.place) n a.hundredths some c.if-hundredths-ne0.true)
      | else-hundredths-eq0+else-not-is w ↦
          let none = eqb-true n 0 (sym w.is.ensures ∙ w.if-not-is.false) in
          let told = rw (w.plan-is, c.clear.ensures) at c.say_fraction.ensures in
          (omega (arith, told.added.near), told_phrase told ∙ part_is S (currency_at a.currency.place) n a.hundredths none c.if-hundredths-ne0.true)
    ]

pub returns-else-hundredths-ne0 : goal.returns-else-hundredths-ne0
returns-else-hundredths-ne0 c =
    let a = c.args in
    elim c.if-hundredths-eq0.branch [
      | then-hundredths-eq0 w ↦
          let told = rw (← w.plan-is, c.clear.ensures) at w.say_main.ensures in
          (omega (arith, told.added.near), told_phrase told ∙ whole_is_lem (numbers_of a.settings) (currency_at a.currency.place) (total a.whole.now.groups) a.hundredths c.if-hundredths-ne0.false)
      | else-hundredths-eq0+else-not-is w ↦ absurd (w.if-hundredths-eq0.false c.if-hundredths-ne0.false)
    ]
