-- `uk_ordinal_read::last::count` meets its contract.
-- Assumes nothing.
use Prim.Native.Nat.{◌+◌, ◌-◌}
use native.Mathlib.Omega.{arith}
use lib.ListN.{length-drop}
use Rattle.std.proofs.lemmas.List.{take_rest}
use Rattle.uk_ordinal_read.proofs.CountLaws.{stopped, all_taken, goes_on}
use Rattle.uk_ordinal_read.proofs.last.count.Goals as goal

pub loop-preserved : goal.loop-preserved
loop-preserved c =
    let s = c.args.s.now in
    let at = c.loop.at in
    let i = c.loop.invariant in
    let w = c.in-Some.word in
    let e = c.in-Some.ensures in
    record {
      within = let l = rw (take_rest s at, length-drop at s) at e.3 in omega arith;
      small = c.grown-value.ensures.1;
      left = rw c.grown-value.ensures.0 (goes_on s at i.left (4 - (c.loop.counter + 1)) w.value w.length (omega arith) e.0 e.1 e.2);
    }

pub returns-in-None : goal.returns-in-None
returns-in-None c =
    let i = c.loop.invariant in
    let p = stopped c.args.s.now c.loop.at i.left c.in-None.ensures in
    record { value_value = (p.0, i.small); s_value = (p.1, i.within) }

pub returns-after-loop : goal.returns-after-loop
returns-after-loop c =
    let i = c.loop.invariant in
    let p = all_taken c.args.s.now c.loop.at i.left (omega arith) in
    record { value_value = (p.0, i.small); s_value = (p.1, i.within) }
