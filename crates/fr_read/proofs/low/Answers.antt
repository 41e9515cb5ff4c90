-- `fr_read::low` meets its contract.
-- Assumes nothing.
use Prim.Native.Nat.{◌+◌}
use native.Mathlib.Omega.{arith}
use Rattle.walker.proofs.Steps.{found_none}
use Rattle.fr_read.proofs.Bounds.{grow_small}
use Rattle.fr_read.proofs.Cases.{word_means, moves, low_more, low_word, low_end}
use Rattle.fr_read.proofs.low.Goals as goal

pub returns-then-m-ge-HUNDRED : goal.returns-then-m-ge-HUNDRED
returns-then-m-ge-HUNDRED c =
    let s = c.args.s.now in
    let l = c.loop-w in
    let w = c.in-Some.w in
    let n = moves s l.at w c.in-Some.ensures in
    record {
      by_index = low_word s c.args.from l.c l.at l.invariant.same c.meaning-m.result (l.at + w.next) (rw c.meaning-m.ensures (word_means s l.at w c.in-Some.ensures));
      count_bound = (l.invariant.small, omega (arith, l.invariant.past), n.0, λ q. absurd (omega arith));
    }

pub loop-w-smaller : goal.loop-w-smaller
loop-w-smaller c = let n = moves c.args.s.now c.loop-w.at c.in-Some.w c.in-Some.ensures in omega arith

pub loop-w-preserved : goal.loop-w-preserved
loop-w-preserved c =
    let s = c.args.s.now in
    let l = c.loop-w in
    let w = c.in-Some.w in
    let n = moves s l.at w c.in-Some.ensures in
    record {
      past = omega (arith, l.invariant.past);
      within = n.0;
      small = rw c.grow-c.ensures (grow_small l.c c.meaning-m.result);
      same = rw c.grow-c.ensures (low_more s c.args.from l.c l.at l.invariant.same c.meaning-m.result (l.at + w.next) (rw c.meaning-m.ensures (word_means s l.at w c.in-Some.ensures)) c.if-m-ge-HUNDRED.false);
    }

pub returns-clause-by_index : goal.returns-clause-by_index
returns-clause-by_index c = let l = c.loop-w in low_end c.args.s.now c.args.from l.c l.at l.invariant.same l.invariant.small (found_none c.args.s.now l.at c.in_default.ensures)
