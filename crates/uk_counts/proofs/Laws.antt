-- Seven bytes of eight as one number, how large what is looked up can be, and the count word of a text as the code tells it.
-- Assumes nothing.
use Prim.Native.Nat.{ℕ, ◌+◌, ◌/◌, ◌%◌, ◌<◌, ◌≤◌}
use mathlib.Core.Path.{◌≡◌, refl, sym, ◌∙◌}
use mathlib.Core.Bool.{Bool, true, false, cond}
use mathlib.Core.List.{List, [], ◌∷◌}
use mathlib.Core.Logic.{◌⊎◌, inl, inr}
use native.Mathlib.Omega.{arith}
use borrow.Author.Tests.{lt-ltb, le-ltb, ltb-true}
use lib.Dec.{eqb, ltb}
use lib.ListN.{length, take, get_or}
use Rattle.base.specs.Bytes.{num, Bytes}
use Rattle.meanings.specs.Lookup.{Entries, lookup}
use Rattle.uk_counts.specs.Counts.{leads, counts, lead_of, entry_of, count_of}

-- the first seven of eight bytes
pub seven_of : (s : List ℕ) → Bytes s → 8 ≤ length s → num (take 8 s) % 72057594037927936 ≡ num (take 7 s)
seven_of [] x l = absurd (omega arith)
seven_of (a ∷ []) x l = absurd (omega arith)
seven_of (a ∷ b ∷ []) x l = absurd (omega arith)
seven_of (a ∷ b ∷ c ∷ []) x l = absurd (omega arith)
seven_of (a ∷ b ∷ c ∷ d ∷ []) x l = absurd (omega arith)
seven_of (a ∷ b ∷ c ∷ d ∷ e ∷ []) x l = absurd (omega arith)
seven_of (a ∷ b ∷ c ∷ d ∷ e ∷ f ∷ []) x l = absurd (omega arith)
seven_of (a ∷ b ∷ c ∷ d ∷ e ∷ f ∷ g ∷ []) x l = absurd (omega arith)
seven_of (a ∷ b ∷ c ∷ d ∷ e ∷ f ∷ g ∷ h ∷ s) x l = omega (arith, x 0, x 1, x 2, x 3, x 4, x 5, x 6)

-- every entry stands for less than m
abbrev below : ℕ → Entries → Bool
below m [] = ltb 0 m
below m (e ∷ es) = cond (ltb e.1 m) (below m es) false

-- so what is looked up is less
lookup_below : (m k : ℕ) (es : Entries) → below m es ≡ true → lookup k es < m
unfolding lookup
lookup_below m k [] h = ltb-true 0 m h
lookup_below m k (e ∷ es) h = go (ltb e.1 m) refl h (lookup_below m k es) (eqb k e.0)
  where
    go : (t : Bool) → ltb e.1 m ≡ t → cond t (below m es) false ≡ true → (below m es ≡ true → lookup k es < m) → (u : Bool) → cond u e.1 (lookup k es) < m
    go true a b r true = ltb-true e.1 m a
    go true a b r false = r b
    go false a b r u = let z : ◌≡◌ {A = ℕ} 0 1 = cc in absurd (omega arith)

pub count_below : (k : ℕ) → lookup k counts < 65536
unfolding counts
count_below k = lookup_below 65536 k counts refl

module _ (s : List ℕ) where
  -- a text too short for any
  pub too_short : length s < 16 → count_of s ≡ 0
  unfolding count_of
  too_short h = rw (lt-ltb (length s) 16 h) refl

  -- one whose entry was looked up, by the number v of its first seven bytes and the byte that tells
  module _ (v lead told entry : ℕ) (a : v ≡ num (take 7 s)) (b : lead ≡ lookup (v % 16511 % 100) leads) (d : told ≡ get_or s (lead % 16) 0)
      (e : entry ≡ lookup ((lead / 16 + told) % 64) counts) (h : 16 ≤ length s) where
    is_entry : entry ≡ entry_of s
    unfolding entry_of lead_of
    is_entry = e ∙ rw (d, b, a) refl

    pub long : entry % 64 ≤ length s → count_of s ≡ entry
    unfolding count_of
    long k = let m : entry_of s % 64 ≤ length s = rw is_entry at k in rw (le-ltb (length s) 16 h, le-ltb (length s) (entry_of s % 64) m) (sym is_entry)

    shorter : length s < entry % 64 → count_of s ≡ 0
    unfolding count_of
    shorter k = let m : length s < entry_of s % 64 = rw is_entry at k in rw (le-ltb (length s) 16 h, lt-ltb (length s) (entry_of s % 64) m) refl

    pub none : (entry ≡ 0) ⊎ ((entry ≡ 0 → ⊥) × (length s < entry % 64)) → count_of s ≡ 0
    none (inl z) = long (omega arith) ∙ z
    none (inr k) = shorter k.1
