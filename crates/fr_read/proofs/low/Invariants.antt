-- At the head of the loop the words up to `at` are c.
-- Assumes nothing.
use Prim.Native.Nat.{ℕ, ◌-◌, ◌<◌, ◌≤◌}
use mathlib.Core.Path.{◌≡◌}
use lib.ListN.{length, drop}
use Rattle.fr_read.specs.Reading.{meanings, seems}
use Rattle.fr_read.proofs.low.Given as goal

abbrev pub invariant-loop-w : goal.invariant-loop-w
invariant-loop-w l = record {
  past : l.from ≤ l.at;
  within : l.at ≤ length l.s;
  small : l.c < 100;
  same : (h : ℕ) → seems h 0 (meanings (drop l.from l.s)) ≡ seems h l.c (meanings (drop l.at l.s));
}

abbrev pub decreases-loop-w : goal.decreases-loop-w
decreases-loop-w l = length l.s - l.at
