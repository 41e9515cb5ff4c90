-- The loop's invariant: the groups of the places passed are stored, and the digits left mean what is left of the number after them.
use Rattle.std.proofs.Common.{◌≡◌, true, ◌/◌, ◌^◌, length}
use Rattle.figures.specs.Text.{digits, value}
use Rattle.figures.specs.Groups.{groups_of}
use Rattle.figures.proofs.Laws.Buffer.{sofar}
use Rattle.groups.proofs.fill.Given as goal

abbrev pub invariant-loop-place : goal.invariant-loop-place
invariant-loop-place l = record {
  are_digits : digits l.rest ≡ true;
  left : value l.rest ≡ value l.s / 1000 ^ l.place-index;
  stored : l.out ≡ sofar l.initial.out (groups_of (length l.initial.out) (value l.s)) l.place-index;
}
