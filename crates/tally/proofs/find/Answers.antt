-- The place at hand has the item number or has another one, and behind the last there is none.
-- Assumes nothing.
use Rattle.std.proofs.Common.{◌≡◌, ℕ, ◌≤◌, length, drop, drop_of_length-le, add-one, suc, ap, ◌∙◌, arith}
use Rattle.tally.specs.Sums.{place_under}
use Rattle.tally.proofs.Places.{places_length, place_read, places_of, places_at, here, later, nowhere}
use Rattle.tally.proofs.find.Goals as goal

pub returns-then-get4-sought : goal.returns-then-get4-sought
returns-then-get4-sought c =
    let a = c.args in
    let i : ℕ = c.loop-i.i in
    let z : place_under a.item (drop i (places_of a.tally.now)) ≡ 0 = ap (place_under a.item) (places_at a.tally.now i c.requires (omega arith)) ∙ here a.item (place_read a.tally.now i) _ (omega arith) in
    let w : place_under a.item (places_of a.tally.now) ≡ i = omega arith in
    record { found = λ j q. let s : i ≡ j = cc in (omega arith, cc); none = λ q. cc }

pub loop-i-preserved : goal.loop-i-preserved
loop-i-preserved c =
    let a = c.args in
    let i : ℕ = c.loop-i.i in
    let z = ap (place_under a.item) (places_at a.tally.now i c.requires (omega arith)) ∙ later a.item (place_read a.tally.now i) (drop (suc i) (places_of a.tally.now)) (λ e. omega arith) in
    rw (add-one i) (omega arith)

pub returns : goal.returns
returns c =
    let a = c.args in
    let h : length (places_of a.tally.now) ≤ c.loop-i.i = omega (arith, places_length 64 (drop 5 a.tally.now)) in
    let z : place_under a.item (drop c.loop-i.i (places_of a.tally.now)) ≡ 0 = ap (place_under a.item) (drop_of_length-le (places_of a.tally.now) h) ∙ nowhere a.item in
    record { found = λ j q. cc; none = λ q. omega arith }
