-- The loop's invariant: the digits above the groups left are written.
use Rattle.std.proofs.Common.{◌≡◌, ◌-◌, ◌*◌, ◌/◌, ◌^◌}
use Rattle.base.specs.Buffer.{over}
use Rattle.figures.specs.Groups.{total}
use Rattle.figures.specs.Written.{fixed}
use Rattle.numerals.proofs.put_groups.Given as goal

abbrev pub invariant-loop-order : goal.invariant-loop-order
invariant-loop-order l = l.out ≡ over l.initial.out (fixed ((l.o - l.order) * 3) (total l.g / 1000 ^ l.order))
