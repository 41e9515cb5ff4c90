-- A plan whose places are below a limit says the same of the front of a pool as of the whole.
-- Assumes nothing.
use Prim.Native.Nat.{ℕ, zero, suc, ◌+◌, ◌*◌, ◌/◌, ◌%◌, ◌<◌, ◌≤◌}
use mathlib.Core.Path.{◌≡◌, refl, ap₂}
use mathlib.Core.List.{List, [], ◌∷◌}
use mathlib.Core.Bool.{true}
use native.Mathlib.Omega.{arith}
use borrow.Author.Tests.{ltb-true}
use lib.Dec.{ltb}
use lib.ListN.{take, drop}
use lib.Seq.{take-take}
use Rattle.std.specs.List.{list_all}
use Rattle.tables.proofs.Tests.{both_hold}
use Rattle.words.specs.Part.{part}
use Rattle.plan.specs.Phrase.{Piece}
use Rattle.plan.specs.Plan.{piece_of, pieces, Below}

-- where each place passes the test, all are below the limit
pub all_below : (limit : ℕ) (xs : List ℕ) → list_all (λ c. ltb (c / 256) limit) xs ≡ true → Below limit xs
all_below limit [] e = tt
all_below limit (x ∷ xs) e =
    let b = both_hold (ltb (x / 256) limit) (list_all (λ c. ltb (c / 256) limit) xs) e in
    (ltb-true (x / 256) limit b.0, all_below limit xs b.1)

-- what lies in the first k
within : (a b k : ℕ) (xs : List ℕ) → a + b ≤ k → take b (drop a (take k xs)) ≡ take b (drop a xs)
within zero b k xs h = take-take b k xs (omega arith)
within (suc a) b zero xs h = absurd (omega arith)
within (suc a) b (suc k) [] h = refl
within (suc a) b (suc k) (x ∷ xs) h = within a b k xs (omega arith)

-- the pieces of such a plan, where a text at a place below the limit ends in the first k bytes
pub front_pieces : (pool : List ℕ) (k limit : ℕ) → ((p : ℕ) → p < limit → 2 * (p / 40) + p % 40 ≤ k) → (cs : List ℕ) → Below limit cs → pieces (take k pool) cs ≡ pieces pool cs
unfolding pieces piece_of part
front_pieces pool k limit h [] b = refl
front_pieces pool k limit h (c ∷ cs) b =
    ap₂ (λ (w : List ℕ) (ps : List Piece). (c % 256, w) ∷ ps) (within (2 * (c / 256 / 40)) (c / 256 % 40) k pool (h (c / 256) b.0)) (front_pieces pool k limit h cs b.1)
