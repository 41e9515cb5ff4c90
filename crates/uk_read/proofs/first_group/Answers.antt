-- `uk_read::first_group` meets its contract.
-- Assumes nothing.
use mathlib.Core.Path.{refl, ◌∙◌}
use native.Mathlib.Omega.{arith}
use Rattle.uk_read.proofs.Texts.{looked, stopped, scaled, added, ended}
use Rattle.uk_read.proofs.first_group.Goals as goal

pub returns-then-m-eq0 : goal.returns-then-m-eq0
returns-then-m-eq0 c =
    let i = c.loop-at.invariant in
    let k = looked c.args.s.now c.loop-at.at _ _ _ c.loop-at-test.true c.first-t.ensures c.meaning-m.ensures in
    let e = i.same ∙ stopped k c.loop-at.value c.if-m-eq0.true in
    record { value_value = rw e (refl, refl, i.small); s_value = rw e (refl, i.within) }

pub returns-then-m-gt-MOST : goal.returns-then-m-gt-MOST
returns-then-m-gt-MOST c =
    let i = c.loop-at.invariant in
    let k = looked c.args.s.now c.loop-at.at _ _ _ c.loop-at-test.true c.first-t.ensures c.meaning-m.ensures in
    let e = i.same ∙ scaled k c.loop-at.value c.if-m-eq0.false c.if-m-gt-MOST.true in
    record { value_value = rw e (refl, c.from-order.ensures, i.small); s_value = rw e (refl, k.within) }

pub loop-at-preserved : goal.loop-at-preserved
loop-at-preserved c =
    let i = c.loop-at.invariant in
    let k = looked c.args.s.now c.loop-at.at _ _ _ c.loop-at-test.true c.first-t.ensures c.meaning-m.ensures in
    record { within = k.within; small = omega arith; same = i.same ∙ added k c.loop-at.value c.if-m-eq0.false c.if-m-gt-MOST.false }

pub returns : goal.returns
returns c =
    let i = c.loop-at.invariant in
    let e = i.same ∙ ended c.args.s.now c.loop-at.at c.loop-at.value c.loop-at-test.false in
    record { value_value = rw e (refl, refl, i.small); s_value = rw e (refl, i.within) }
