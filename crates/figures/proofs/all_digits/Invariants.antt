-- The loop's invariant: the bytes passed are digits where the farthest past '0' is below 10.
use Rattle.std.proofs.Common.{◌≡◌, ◌&&◌, ltb, drop}
use Rattle.figures.specs.Text.{digits}
use Rattle.figures.proofs.all_digits.Given as goal

abbrev pub invariant-loop-b : goal.invariant-loop-b
invariant-loop-b l = digits l.s ≡ (ltb l.farthest 10 && digits (drop l.b-index l.s))
