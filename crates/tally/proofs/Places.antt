-- Laws of a tally's places: where they lie, the first with an item number, and their sum.
-- Assumes nothing.
use Prim.Native.Nat.{ℕ, zero, suc, ◌+◌, ◌*◌, ◌/◌, ◌<◌, ◌≤◌}
use native.Mathlib.Omega.{arith}
use mathlib.Core.Path.{◌≡◌, refl, sym, ap, ◌∙◌}
use mathlib.Core.Bool.{Bool, true, false, cond, ◌||◌}
use mathlib.Core.List.{List, [], ◌∷◌}
use lib.Dec.{eqb, ltb, leb-suc-suc}
use lib.ListN.{length, get_or, set, take, drop}
use lib.Seq.{drop-drop, drop-cons}
use borrow.Author.Tests.{lt-ltb, eq-eqb, ne_eqb}
use Rattle.std.proofs.Common.{None}
use Rattle.base.specs.Bytes.{num}
use Rattle.figures.specs.Money.{money_limit}
use Rattle.tally.specs.Tally.{in_hundredths, sum_in, is_under, exchanged}
use Rattle.tally.specs.Layout.{place_in, places_in}
use Rattle.tally.specs.Sums.{place_under, IsSum}
use Rattle.tally.specs.declared.Place.{Place}

-- as many places as asked for
pub places_length : (k : ℕ) (b : List ℕ) → length (places_in k b) ≡ k
unfolding places_in
places_length zero b = refl
places_length (suc k) b = ap suc (places_length k (drop 13 b))

-- the places from one on begin with what lies 13 bytes on for each before it
pub places_from : (i k : ℕ) (b : List ℕ) → i < k → drop i (places_in k b) ≡ place_in (drop (13 * i) b) ∷ drop (suc i) (places_in k b)
unfolding places_in
places_from i zero b h = absurd (omega arith)
places_from zero (suc k) b h = refl
places_from (suc i) (suc k) b h =
    let n : 13 + 13 * i ≡ 13 * suc i = omega arith in
    places_from i k (drop 13 b) (omega arith) ∙ rw (drop-drop (13 * i) 13 b, n) refl

-- the place with this number in a tally's bytes, as the code reads it
abbrev pub place_read : List ℕ → ℕ → Place
place_read ts i = record { item = num (take 4 (drop (5 + i * 13) ts)); whole = num (take 8 (drop (5 + i * 13 + 4) ts)); hundredths = get_or ts (5 + i * 13 + 12) 0 }

-- a tally's places
abbrev pub places_of : List ℕ → List Place
places_of ts = places_in 64 (drop 5 ts)

-- the places from one on begin with that one
pub places_at : (ts : List ℕ) (i : ℕ) → 837 ≤ length ts → i < 64 → drop i (places_of ts) ≡ place_read ts i ∷ drop (suc i) (places_of ts)
places_at ts i l h =
    let n : 5 + 13 * i ≡ 5 + i * 13 = omega arith in
    let at : ℕ = 5 + i * 13 in
    let b : drop (13 * i) (drop 5 ts) ≡ drop at ts = drop-drop (13 * i) 5 ts ∙ rw n refl in
    let e : num (take 1 (drop (at + 12) ts)) ≡ get_or ts (at + 12) 0 = rw (drop-cons ts (at + 12) 0 (omega arith)) (omega arith) in
    places_from i 64 (drop 5 ts) h ∙ rw (b, drop-drop 4 at ts, drop-drop 12 at ts, e) refl

-- the first place has the item number
pub here : (i : ℕ) (p : Place) (ps : List Place) → p.item ≡ i → place_under i (p ∷ ps) ≡ 0
unfolding place_under
here i p ps e = rw (eq-eqb p.item i e) refl

-- the first place has another
pub later : (i : ℕ) (p : Place) (ps : List Place) → (p.item ≡ i → ⊥) → place_under i (p ∷ ps) ≡ suc (place_under i ps)
unfolding place_under
later i p ps n = rw (ne_eqb p.item i n) refl

-- there is no place
pub nowhere : (i : ℕ) → place_under i [] ≡ 0
unfolding place_under
nowhere i = refl

-- one place more
pub sum_turn : (ps : List Place) (j : ℕ) (p : Place) (qs : List Place) → drop j ps ≡ p ∷ qs
    → sum_in (take (suc j) ps) ≡ sum_in (take j ps) + in_hundredths p.whole p.hundredths
sum_turn [] zero p qs e = absurd (let z : ◌≡◌ {A = ℕ} 0 1 = cc in omega arith)
sum_turn [] (suc j) p qs e = absurd (let z : ◌≡◌ {A = ℕ} 0 1 = cc in omega arith)
sum_turn (q ∷ ps) zero p qs e = let s : q ≡ p = cc in rw s (omega arith)
sum_turn (q ∷ ps) (suc j) p qs e = omega (arith, sum_turn ps j p qs e)

-- more places have no less in all
pub sum_grows : (ps : List Place) (j k : ℕ) → j ≤ k → sum_in (take j ps) ≤ sum_in (take k ps)
sum_grows ps zero k h = omega arith
sum_grows ps (suc j) zero h = absurd (omega arith)
sum_grows [] (suc j) (suc k) h = omega arith
sum_grows (p ∷ ps) (suc j) (suc k) h = omega (arith, sum_grows ps j k (omega arith))

-- with one place exchanged: that one, those before it and those after it
pub sum_set : (ps : List Place) (i : ℕ) (q : Place) → i < length ps
    → sum_in (set ps i q) ≡ in_hundredths q.whole q.hundredths + sum_in (take i ps) + sum_in (drop (suc i) ps)
sum_set [] i q h = absurd (omega arith)
sum_set (p ∷ ps) zero q h = omega arith
sum_set (p ∷ ps) (suc i) q h = omega (arith, sum_set ps i q (omega arith))

-- to exchange by an item number is to set the first place with it
pub exchanged_set : (i : ℕ) (q : Place) (ps : List Place) → place_under i ps < length ps → exchanged i q ps ≡ set ps (place_under i ps) q
unfolding place_under
exchanged_set i q [] h = refl
exchanged_set i q (p ∷ ps) h = at (eqb p.item i) h (exchanged_set i q ps)
  where
    at : (t : Bool) → cond t 0 (suc (place_under i ps)) < suc (length ps) → (place_under i ps < length ps → exchanged i q ps ≡ set ps (place_under i ps) q)
        → cond t (q ∷ ps) (p ∷ exchanged i q ps) ≡ set (p ∷ ps) (cond t 0 (suc (place_under i ps))) q
    at true h e = refl
    at false h e = rw (e (omega arith)) refl

-- a place has an item number where the first with it is before the end
pub under_found : (i : ℕ) (ps : List Place) → is_under i ps ≡ ltb (place_under i ps) (length ps)
unfolding place_under
under_found i [] = refl
under_found i (p ∷ ps) = at (eqb p.item i) (under_found i ps)
  where
    at : (t : Bool) → is_under i ps ≡ ltb (place_under i ps) (length ps) → (t || is_under i ps) ≡ ltb (cond t 0 (suc (place_under i ps))) (suc (length ps))
    at true e = sym (lt-ltb 0 (suc (length ps)) (omega arith))
    at false e = e ∙ sym (leb-suc-suc (suc (place_under i ps)) (length ps))

-- a sum above the limit
pub is_beyond : (n : ℕ) → money_limit < n / 100 → IsSum None n
is_beyond n h = record { if_within = λ s e. cc; if_beyond = λ e. h }
