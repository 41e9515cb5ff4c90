-- At the head of the loop the words up to `at` are h hundreds.
-- Assumes nothing.
use Prim.Native.Nat.{◌-◌, ◌<◌, ◌≤◌}
use mathlib.Core.Path.{◌≡◌}
use lib.ListN.{length, drop}
use Rattle.fr_read.specs.Reading.{meanings, seems}
use Rattle.fr_read.proofs.first_group.Given as goal

abbrev pub invariant-loop-at : goal.invariant-loop-at
invariant-loop-at l = record {
  within : l.at ≤ length l.s;
  small : l.h < 10;
  same : seems 0 0 (meanings l.s) ≡ seems l.h 0 (meanings (drop l.at l.s));
}

abbrev pub decreases-loop-at : goal.decreases-loop-at
decreases-loop-at l = length l.s - l.at
