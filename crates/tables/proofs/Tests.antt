-- Tests that antt computes of every number in a range, and what each gives.
-- Assumes nothing.
use Prim.Native.Nat.{ℕ, zero, suc, ◌+◌, ◌<◌, ◌≤◌}
use mathlib.Core.Path.{◌≡◌, refl, sym, subst}
use mathlib.Core.Bool.{Bool, true, false, ◌&&◌}
use native.Mathlib.Omega.{arith}
use native.Mathlib.Decide.{ℕ_discrete}

pub clash : {A : Type 0} → true ≡ false → A
clash e = let z : ◌≡◌ {A = ℕ} 0 1 = cc in absurd (omega arith)

pub clash_of : {A : Type 0} → false ≡ true → A
clash_of e = clash (sym e)

-- both parts of a test
pub both_hold : (a b : Bool) → (a && b) ≡ true → (a ≡ true) × (b ≡ true)
both_hold true b e = (refl, e)
both_hold false b e = clash_of e

pub and_left : (a b : Bool) → (a && b) ≡ true → a ≡ true
and_left a b e = (both_hold a b e).0

pub and_right : (a b : Bool) → (a && b) ≡ true → b ≡ true
and_right a b e = (both_hold a b e).1

-- a test of each of the n numbers from lo on
abbrev pub all : ℕ → ℕ → (ℕ → Bool) → Bool
all lo zero f = true
all lo (suc n) f = f (lo + n) && all lo n f

pub all_at : (lo n : ℕ) (f : ℕ → Bool) → all lo n f ≡ true → (i : ℕ) → lo ≤ i → i < lo + n → f i ≡ true
all_at lo zero f t i l h = absurd (omega arith)
all_at lo (suc n) f t i l h = go (ℕ_discrete i (lo + n)) (all_at lo n f (and_right (f (lo + n)) (all lo n f) t) i l)
  where
    go : Dec (i ≡ lo + n) → (i < lo + n → f i ≡ true) → f i ≡ true
    go (yes e) r = subst (λ (x : ℕ). f x ≡ true) (sym e) (and_left (f (lo + n)) (all lo n f) t)
    go (no e) r = r (omega arith)
