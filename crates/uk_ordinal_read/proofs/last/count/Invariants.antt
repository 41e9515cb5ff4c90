-- The loop of `uk_ordinal_read::last::count`: what the words before `at` count, and what is left to count.
-- Assumes nothing.
use Prim.Native.Nat.{◌-◌, ◌<◌, ◌≤◌}
use lib.ListN.{length, drop}
use Rattle.uk_ordinal_read.specs.LastWord.{counted, uncounted}
use Rattle.uk_ordinal_read.proofs.CountLaws.{Counts}
use Rattle.uk_ordinal_read.proofs.last.count.Given as goal

abbrev pub invariant-loop : goal.invariant-loop
invariant-loop l = record {
  within : l.at ≤ length l.s;
  small : l.value < 1000;
  left : Counts (4 - l.counter) l.value (drop l.at l.s) (counted 4 0 l.s) (uncounted 4 l.s);
}
