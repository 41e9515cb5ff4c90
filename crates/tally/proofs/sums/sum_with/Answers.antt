-- The sum of the place given, the places before it and those after it.
-- Assumes nothing.
use Rattle.std.proofs.Common.{◌≡◌, ℕ, ◌+◌, ◌-◌, ◌≤◌, ◌<◌, None, List, length, set, take, take_all, drop, length-drop, suc, add-one, refl, rules, arith}
use Rattle.tally.specs.Tally.{in_hundredths, sum_in}
use Rattle.tally.specs.declared.Place.{Place}
use Rattle.tally.proofs.Places.{places_length, places_of, sum_set, is_beyond}
use Rattle.tally.proofs.sums.sum_with.Goals as goal

-- the sum with a place set, as the code adds it up
added : (ts : List ℕ) (i : ℕ) (p : Place) → i < 64 →
    sum_in (set (places_of ts) i p) ≡ in_hundredths p.whole p.hundredths + sum_in (take (i - 0) (drop 0 (places_of ts))) + sum_in (take (64 - (i + 1)) (drop (i + 1) (places_of ts)))
added ts i p h =
    let l : length (places_of ts) ≡ 64 = places_length 64 (drop 5 ts) in
    let z : i - 0 ≡ i = omega arith in
    let d : length (drop (suc i) (places_of ts)) ≤ 64 - suc i = omega (arith, length-drop (suc i) (places_of ts)) in
    rw (z, add-one i, take_all (64 - suc i) (drop (suc i) (places_of ts)) d) (sum_set (places_of ts) i p (omega arith))

pub returns-in_err-before-clause-sum : goal.returns-in_err-before-clause-sum
returns-in_err-before-clause-sum c =
    let n : c.from_residual.result ≡ None = search rules in
    rw n (is_beyond _ (omega (arith, added c.args.tally.now c.args.i c.args.place c.requires.0, c.in_err-before.ensures.sum.if_beyond refl)))

pub returns-in_err-plus_places-clause-sum : goal.returns-in_err-plus_places-clause-sum
returns-in_err-plus_places-clause-sum c =
    let n : c.from_residual-in_err-plus_places.result ≡ None = search rules in
    let b = c.in_ok-before.ensures.sum.if_within _ refl in
    rw n (is_beyond _ (omega (arith, added c.args.tally.now c.args.i c.args.place c.requires.0, b, c.in_err-plus_places.ensures.sum.if_beyond refl)))

pub returns-clause-sum : goal.returns-clause-sum
returns-clause-sum c =
    let b = c.in_ok-before.ensures.sum.if_within _ refl in
    let d = c.in_ok-plus_places.ensures.sum.if_within _ refl in
    rw (added c.args.tally.now c.args.i c.args.place c.requires.0, ← b, ← d) c.carried.ensures.sum
