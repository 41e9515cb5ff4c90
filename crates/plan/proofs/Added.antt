-- Laws of `Added`, with which a planner's contract follows from those of the planners that it calls.
-- Assumes nothing.
use Prim.Native.Nat.{ℕ, ◌+◌, ◌*◌, ◌%◌, ◌/◌, ◌<◌, ◌≤◌}
use mathlib.Core.Path.{◌≡◌, refl, sym, ap, ◌∙◌}
use mathlib.Core.List.{List, [], ◌∷◌, ◌++◌, append-nil, append_assoc, map-append}
use native.Mathlib.Omega.{arith}
use lib.ListN.{length, length-append, length-map}
use Rattle.words.specs.Part.{part}
use Rattle.plan.specs.Phrase.{Piece}
use Rattle.plan.specs.Plan.{piece_of, pieces, Added}

-- nothing is added
pub stay : {pool : List ℕ} (k : ℕ) (xs : List ℕ) → Added pool k xs xs []
stay {pool} k xs = record { near = omega arith; more = sym (append-nil (pieces pool xs)) }

-- one after the other, in room for both
pub then : {pool : List ℕ} {j k : ℕ} {xs ys zs : List ℕ} {ps qs : List Piece} (i : ℕ) → Added pool j xs ys ps → Added pool k ys zs qs → j + k ≤ i → Added pool i xs zs (ps ++ qs)
then {pool} {xs = xs} {ps = ps} {qs = qs} i a b h = record {
  near = omega (arith, a.near, b.near);
  more = b.more ∙ ap (λ (l : List Piece). l ++ qs) a.more ∙ append_assoc (pieces pool xs) ps qs;
}

-- the same pieces, in more room
pub same : {pool : List ℕ} {k : ℕ} {xs ys : List ℕ} {ps qs : List Piece} (i : ℕ) → Added pool k xs ys ps → k ≤ i → ps ≡ qs → Added pool i xs ys qs
same i a h e = rw (← e) (record { near = omega (arith, a.near); more = a.more })

-- a piece by its word
pub spoken : {pool : List ℕ} {k s : ℕ} {xs ys b c : List ℕ} → Added pool k xs ys ((s, b) ∷ []) → b ≡ c → Added pool k xs ys ((s, c) ∷ [])
spoken a e = rw (← e) a

-- a number stored at the end
pub pushed : (pool : List ℕ) {xs ys : List ℕ} (place s : ℕ) → s < 256 → ys ≡ xs ++ (place * 256 + s) ∷ [] → Added pool 1 xs ys ((s, part pool place) ∷ [])
unfolding pieces piece_of
pushed pool {xs = xs} place s h e =
    let p : (place * 256 + s) % 256 ≡ s = omega arith in
    let q : (place * 256 + s) / 256 ≡ place = omega arith in
    rw e (record { near = rw length-append (omega arith); more = rw (map-append, p, q) refl })

-- as many pieces more as numbers more
pub grew : {pool : List ℕ} {k : ℕ} {xs ys : List ℕ} {ps : List Piece} → Added pool k xs ys ps → length ys ≡ length xs + length ps
unfolding pieces
grew {pool} {xs = xs} {ys = ys} {ps = ps} a =
    sym (length-map ys (piece_of pool)) ∙ ap length a.more ∙ length-append (pieces pool xs) ps ∙ ap (λ (i : ℕ). i + length ps) (length-map xs (piece_of pool))
