-- `uk_money_read::nouns` meets its contract.
-- Assumes nothing.
use mathlib.Core.Path.{sym, ◌∙◌}
use Rattle.uk_read.proofs.Texts.{looked}
use Rattle.uk_money_read.proofs.Behind.{stays, passes, ends}
use Rattle.uk_money_read.proofs.nouns.Goals as goal

pub returns-then-meaning-ne0 : goal.returns-then-meaning-ne0
returns-then-meaning-ne0 c =
    let i = c.loop-at.invariant in
    let k = looked c.args.s.now c.loop-at.at _ _ _ c.loop-at-test.true c.first-t.ensures c.meaning.ensures in
    (sym (i.same ∙ stays k c.if-meaning-ne0.true), i.within)

pub loop-at-preserved : goal.loop-at-preserved
loop-at-preserved c =
    let i = c.loop-at.invariant in
    let k = looked c.args.s.now c.loop-at.at _ _ _ c.loop-at-test.true c.first-t.ensures c.meaning.ensures in
    record { within = k.within; same = i.same ∙ passes k c.if-meaning-ne0.false }

pub returns : goal.returns
returns c = let i = c.loop-at.invariant in (ends c.args.s.now c.loop-at.at c.loop-at-test.false ∙ sym i.same, i.within)
