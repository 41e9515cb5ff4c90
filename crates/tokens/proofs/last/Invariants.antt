-- The loop of `tokens::last`: w is the number of the bytes from j on.
use Rattle.std.proofs.Common.{◌≡◌, ◌≤◌, drop}
use Rattle.base.specs.Bytes.{num}
use Rattle.tokens.proofs.last.Given as goal

abbrev pub invariant-loop-j : goal.invariant-loop-j
invariant-loop-j l = (l.i ≤ l.j) × (l.w ≡ num (drop l.j l.s))
