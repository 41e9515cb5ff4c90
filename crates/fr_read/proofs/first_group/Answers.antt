-- `fr_read::first_group` meets its contract.
-- Assumes nothing.
use native.Mathlib.Omega.{arith}
use Rattle.fr_read.proofs.Bounds.{times_small}
use Rattle.fr_read.proofs.Cases.{group_scale, group_cent, group_low, group_end}
use Rattle.fr_read.proofs.first_group.Goals as goal

pub returns-then-t-gt-HUNDRED-clause-s_value : goal.returns-then-t-gt-HUNDRED-clause-s_value
returns-then-t-gt-HUNDRED-clause-s_value c =
    let l = c.loop-at in
    let r = c.low-t.result in
    rw (c.one.ensures, c.order_of.ensures) (group_scale c.args.s.now l.h l.at l.invariant.same r.count r.meaning r.next c.low-t.ensures.by_index c.if-t-gt-HUNDRED.true)

pub returns-then-t-lt-HUNDRED-clause-s_value : goal.returns-then-t-lt-HUNDRED-clause-s_value
returns-then-t-lt-HUNDRED-clause-s_value c =
    let l = c.loop-at in
    let r = c.low-t.result in
    let p = c.low-t.ensures in
    let n = p.count_bound.3 c.if-t-lt-HUNDRED.true in
    group_low c.args.s.now l.h l.at l.invariant.same r.count r.meaning r.next p.by_index p.count_bound.0 n.0 n.1

pub loop-at-preserved : goal.loop-at-preserved
loop-at-preserved c =
    let l = c.loop-at in
    let r = c.low-t.result in
    let p = c.low-t.ensures in
    let e = group_cent c.args.s.now l.h l.at l.invariant.same r.count r.meaning r.next p.by_index (omega arith) in
    record { within = p.count_bound.2; small = rw c.times-h.ensures (times_small r.count); same = rw c.times-h.ensures e }

pub returns-clause-s_value : goal.returns-clause-s_value
returns-clause-s_value c = let l = c.loop-at in group_end c.args.s.now l.h l.at l.invariant.same c.loop-at-test.false
