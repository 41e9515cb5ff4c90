-- At the head of the loop the words before `at` are no number words.
-- Assumes nothing.
use Prim.Native.Nat.{◌-◌, ◌≤◌}
use mathlib.Core.Path.{◌≡◌}
use lib.ListN.{length, drop}
use Rattle.tokens.specs.Tokens.{split}
use Rattle.uk_money_read.specs.Behind.{behind}
use Rattle.uk_money_read.proofs.nouns.Given as goal

abbrev pub invariant-loop-at : goal.invariant-loop-at
invariant-loop-at l = record { within : l.at ≤ length l.s; same : behind (split l.s) ≡ behind (split (drop l.at l.s)) }

abbrev pub decreases-loop-at : goal.decreases-loop-at
decreases-loop-at l = length l.s - l.at
