-- The loop's invariant: n is what the digits passed mean.
use Rattle.std.proofs.Common.{◌≡◌, take}
use Rattle.figures.specs.Text.{value}
use Rattle.figures.proofs.value_of.Given as goal

abbrev pub invariant-loop-b : goal.invariant-loop-b
invariant-loop-b l = l.n ≡ value (take l.b-index l.s)
