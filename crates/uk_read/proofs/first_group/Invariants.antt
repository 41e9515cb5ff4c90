-- The invariant of `uk_read::first_group`: what is made of the text is made of the part that is left.
-- Assumes nothing.
use Prim.Native.Nat.{◌-◌, ◌<◌, ◌≤◌}
use mathlib.Core.Path.{◌≡◌}
use lib.ListN.{length, drop}
use Rattle.tokens.specs.Tokens.{split}
use Rattle.uk_read.specs.Reading.{taken}
use Rattle.uk_read.proofs.first_group.Given as goal

abbrev pub invariant-loop-at : goal.invariant-loop-at
invariant-loop-at l = record {
  within : l.at ≤ length l.s;
  small : l.value < 1000;
  same : taken 0 (split l.s) ≡ taken l.value (split (drop l.at l.s));
}

abbrev pub decreases-loop-at : goal.decreases-loop-at
decreases-loop-at l = length l.s - l.at
