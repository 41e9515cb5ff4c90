-- Where the last word of a text starts, looked for from its end.
-- Assumes nothing.
use Prim.Native.Nat.{ℕ, zero, suc, ◌+◌, ◌-◌, ◌<◌, ◌≤◌}
use mathlib.Core.Path.{◌≡◌, refl, ap}
use mathlib.Core.Bool.{Bool, true, false, ◌||◌}
use mathlib.Core.List.{List, [], ◌∷◌}
use native.Mathlib.Omega.{arith}
use borrow.Author.Tests.{eq-eqb, ne_eqb}
use lib.Dec.{eqb}
use lib.ListN.{length, take, drop, get_or}
use Rattle.tables.proofs.Tests.{clash}
use Rattle.uk_ordinal_read.specs.LastWord.{spaced, last_word, before_last}

-- a space at a place
pub spaced_at : (s : List ℕ) (i : ℕ) → i < length s → get_or s i 0 ≡ 32 → spaced s ≡ true
spaced_at [] i h e = absurd (omega arith)
spaced_at (b ∷ s) zero h e = rw (eq-eqb b 32 e) refl
spaced_at (b ∷ s) (suc i) h e = rw (spaced_at s i (omega arith) e) (or_true (eqb b 32))
  where
    or_true : (t : Bool) → (t || true) ≡ true
    or_true true = refl
    or_true false = refl

-- none at any place
unspaced : (s : List ℕ) → ((k : ℕ) → k < length s → get_or s k 0 ≡ 32 → ⊥) → spaced s ≡ false
unspaced [] n = refl
unspaced (b ∷ s) n = rw (ne_eqb b 32 (n 0 (omega arith)), unspaced s (λ k h. n (suc k) (omega arith))) refl

-- the last space stands before the last word
after : (s : List ℕ) (i : ℕ) → i < length s → get_or s i 0 ≡ 32 → ((k : ℕ) → i < k → k < length s → get_or s k 0 ≡ 32 → ⊥) → (drop (suc i) s ≡ last_word s) × (take i s ≡ before_last s)
unfolding last_word before_last
after [] i h e n = absurd (omega arith)
after (b ∷ s) zero h e n = let u = unspaced s (λ k l. n (suc k) (omega arith) (omega arith)) in (rw (u, eq-eqb b 32 e) refl, rw u refl)
after (b ∷ s) (suc i) h e n =
    let t = spaced_at s i (omega arith) e in
    let r = after s i (omega arith) e (λ k l m. n (suc k) (omega arith) (omega arith)) in
    (rw t r.0, rw t (ap (λ (l : List ℕ). b ∷ l) r.1))

pub last_after : (s : List ℕ) (i : ℕ) → i < length s → get_or s i 0 ≡ 32 → ((k : ℕ) → i < k → k < length s → get_or s k 0 ≡ 32 → ⊥)
    → (drop (i + 1) s ≡ last_word s) × (take (i + 1 - 1) s ≡ before_last s) × (i + 1 ≤ length s)
last_after s i h e n =
    let q : i + 1 ≡ suc i = omega arith in
    let z : suc i - 1 ≡ i = omega arith in
    let r = after s i h e n in
    rw (q, z) (r.0, r.1, omega arith)

-- a text without a space is its last word
pub all_last : (s : List ℕ) → spaced s ≡ false → (s ≡ last_word s) × ([] ≡ before_last s)
unfolding last_word before_last
all_last [] n = (refl, refl)
all_last (b ∷ s) n = go (eqb b 32) (spaced s) refl refl n
  where
    go : (t u : Bool) → eqb b 32 ≡ t → spaced s ≡ u → (t || u) ≡ false → (b ∷ s ≡ last_word (b ∷ s)) × ([] ≡ before_last (b ∷ s))
    go true u e f q = clash q
    go false true e f q = clash q
    go false false e f q = (rw (f, e) refl, rw f refl)

pub none_last : (s : List ℕ) → ((k : ℕ) → k < length s → get_or s k 0 ≡ 32 → ⊥) → (s ≡ last_word s) × ([] ≡ before_last s) × (0 ≤ length s)
none_last s n = let r = all_last s (unspaced s n) in (r.0, r.1, omega arith)
