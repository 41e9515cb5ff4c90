-- The loop's invariant: the groups of the orders passed are stored, and what is left of n after them, which was not 0 before, is rest.
use Rattle.std.proofs.Common.{◌≡◌, ℕ, ◌/◌, ◌^◌, ◌<◌, length}
use Rattle.figures.specs.Groups.{groups_of}
use Rattle.figures.proofs.Laws.Buffer.{sofar}
use Rattle.groups.proofs.groups_from.Given as goal

abbrev pub invariant-loop-orders : goal.invariant-loop-orders
invariant-loop-orders l = record {
  left : l.rest ≡ l.n / 1000 ^ l.orders;
  stored : l.out ≡ sofar l.initial.out (groups_of (length l.initial.out) l.n) l.orders;
  above : (i : ℕ) → i < l.orders → l.n / 1000 ^ i ≡ 0 → ⊥;
}
