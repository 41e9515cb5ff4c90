-- The loop of `tally::sums::plus_places`: what is added up is the sum and the places passed.
-- Assumes nothing.
use Rattle.std.proofs.Common.{◌≡◌, ◌+◌, ◌-◌, ◌*◌, ◌≤◌, take, drop}
use Rattle.figures.specs.Money.{money_limit}
use Rattle.tally.specs.Tally.{in_hundredths, sum_in}
use Rattle.tally.proofs.Places.{places_of}
use Rattle.tally.proofs.sums.plus_places.Given as goal

abbrev pub invariant-loop-i : goal.invariant-loop-i
invariant-loop-i l = record {
  within : l.whole ≤ money_limit;
  few : l.hundredths ≤ l.initial.hundredths + 255 * (l.i - l.from);
  added : in_hundredths l.whole l.hundredths ≡ in_hundredths l.initial.whole l.initial.hundredths + sum_in (take (l.i - l.from) (drop l.from (places_of l.tally)));
}
