-- The loop of `tally::find`: the first place with the item number is the first of those not passed with it.
-- Assumes nothing.
use Rattle.std.proofs.Common.{◌≡◌, ◌+◌, drop}
use Rattle.tally.specs.Sums.{place_under}
use Rattle.tally.proofs.Places.{places_of}
use Rattle.tally.proofs.find.Given as goal

abbrev pub invariant-loop-i : goal.invariant-loop-i
invariant-loop-i l = place_under l.item (places_of l.tally) ≡ l.i + place_under l.item (drop l.i (places_of l.tally))
