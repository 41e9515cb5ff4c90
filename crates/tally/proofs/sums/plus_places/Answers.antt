-- One place more, and what is beyond the limit with it is so with all.
-- Assumes nothing.
use Rattle.std.proofs.Common.{◌≡◌, ℕ, ◌+◌, ◌-◌, ◌≤◌, ◌<◌, List, None, rules, length, take, drop, drop-drop, suc, ◌∙◌, arith}
use Rattle.tally.specs.Tally.{in_hundredths, sum_in}
use Rattle.tally.proofs.Places.{place_read, places_of, places_at, sum_turn, sum_grows, is_beyond}
use Rattle.tally.proofs.sums.plus_places.Goals as goal

-- the places from one on up to a later one, and that one
more : (ts : List ℕ) (from i : ℕ) → 837 ≤ length ts → from ≤ i → i < 64 →
    let ps = drop from (places_of ts) in
    sum_in (take (suc (i - from)) ps) ≡ sum_in (take (i - from) ps) + in_hundredths (place_read ts i).whole (place_read ts i).hundredths
more ts from i l b h =
    let e : from + (i - from) ≡ i = omega arith in
    sum_turn (drop from (places_of ts)) (i - from) (place_read ts i) (drop (suc i) (places_of ts)) (drop-drop (i - from) from (places_of ts) ∙ rw e (places_at ts i l h))

pub returns-in_err-whole-clause-sum : goal.returns-in_err-whole-clause-sum
returns-in_err-whole-clause-sum c =
    let a = c.args in
    let m = more a.tally.now a.from c.loop-i.i (omega arith) (omega arith) (omega arith) in
    let g = sum_grows (drop a.from (places_of a.tally.now)) (suc (c.loop-i.i - a.from)) (a.to - a.from) (omega arith) in
    let n : c.from_residual.result ≡ None = search rules in
    rw n (is_beyond _ (omega arith))

pub loop-i-preserved : goal.loop-i-preserved
loop-i-preserved c =
    let a = c.args in
    let m = more a.tally.now a.from c.loop-i.i (omega arith) (omega arith) (omega arith) in
    let s : c.loop-i.i + 1 - a.from ≡ suc (c.loop-i.i - a.from) = omega arith in
    record { within = omega arith; few = omega arith; added = rw s (omega arith) }
