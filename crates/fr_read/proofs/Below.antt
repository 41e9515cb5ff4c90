-- The groups below an order, where that of the group at the front is known: none, or that group and those below it.
-- Assumes nothing.
use Prim.Native.Nat.{ℕ, zero, suc, ◌+◌, ◌-◌, ◌<◌, ◌≤◌}
use mathlib.Core.Path.{◌≡◌, refl, sym, ◌∙◌, ap}
use mathlib.Core.Bool.{Bool, true, false, cond}
use mathlib.Core.List.{List, [], ◌∷◌, ◌++◌, append_assoc}
use native.Mathlib.Omega.{arith}
use borrow.Author.Tests.{eq-eqb, ne_eqb, eqb-true}
use lib.Dec.{eqb}
use lib.ListN.{length, take, drop, set, replicate, replicate-append-replicate}
use Rattle.groups.specs.Highest.{ZeroFrom}
use Rattle.groups.proofs.Highest.{zeros_all, zeros_then, zeros_past}
use Rattle.std.proofs.lemmas.List.{take_rest}
use Rattle.fr_read.specs.Reading.{meanings, Group, guess, seems, groups_read}
use Rattle.fr_read.proofs.Bounds.{reads_length}

abbrev pub zeros : ℕ → List ℕ
zeros k = replicate k 0

zeros_more : (k : ℕ) → zeros k ++ (0 ∷ []) ≡ zeros (suc k)
zeros_more k = let e : k + 1 ≡ suc k = omega arith in replicate-append-replicate k 1 0 ∙ ap zeros e

-- the same group again, and a group of another order
pub reads_here : (k v : ℕ) (ms : List ℕ) → groups_read (suc k) (guess v k ms) ≡ groups_read k (seems 0 0 ms) ++ (v ∷ [])
unfolding groups_read
reads_here k v ms = rw (eq-eqb k k refl) refl

pub reads_over : (k : ℕ) (g : Group) → (g.order ≡ k → ⊥) → groups_read (suc k) g ≡ groups_read k g ++ (0 ∷ [])
unfolding groups_read
reads_over k g n = rw (ne_eqb g.order k n) refl

-- it is of order k or above
none_below : (g : Group) (k : ℕ) → k ≤ g.order → groups_read k g ≡ zeros k
unfolding groups_read
none_below g zero h = refl
none_below g (suc k) h = reads_over k g (λ z. omega arith) ∙ ap (λ (l : List ℕ). l ++ (0 ∷ [])) (none_below g k (omega arith)) ∙ zeros_more k

-- it is of a lower order
pub one_below : (v o d : ℕ) (ms : List ℕ) → groups_read (suc (o + d)) (guess v o ms) ≡ groups_read o (seems 0 0 ms) ++ (v ∷ zeros d)
one_below v o zero ms = let a : o + 0 ≡ o = omega arith in rw a (reads_here o v ms)
one_below v o (suc d) ms =
    let a : o + suc d ≡ suc (o + d) = omega arith in
    rw a
    (reads_over (suc (o + d)) (guess v o ms) (λ z. omega (arith, z)) ∙ ap (λ (l : List ℕ). l ++ (0 ∷ [])) (one_below v o d ms)
    ∙ append_assoc (groups_read o (seems 0 0 ms)) (v ∷ zeros d) (0 ∷ []) ∙ rw (zeros_more d) refl)

-- the orders above it are 0, and all are where it is of order k or above
pub zeros_above : (k : ℕ) (g : Group) → ZeroFrom (groups_read k g) (g.order + 1)
unfolding groups_read
zeros_above zero g = λ i h. refl
zeros_above (suc k) g = go (eqb g.order k) refl (zeros_above k g)
  where
    go : (t : Bool) → eqb g.order k ≡ t → ZeroFrom (groups_read k g) (g.order + 1) → ZeroFrom (cond t (groups_read k (seems 0 0 g.rest) ++ (g.value ∷ [])) (groups_read k g ++ (0 ∷ []))) (g.order + 1)
    go true e z = zeros_past (groups_read k (seems 0 0 g.rest)) g.value (g.order + 1) (omega (arith, eqb-true g.order k e, reads_length k (seems 0 0 g.rest)))
    go false e z = zeros_then (groups_read k g) (g.order + 1) z

pub no_groups : (g : Group) (out : List ℕ) (k : ℕ) → k ≡ 0 → (out ≡ groups_read k g ++ drop k out) × (ZeroFrom (groups_read k g) 0 × (0 ≤ k))
unfolding groups_read
no_groups g out k e = rw e (refl, (λ i h. refl, omega arith))

pub zeros_none : (k : ℕ) (g : Group) → k ≤ g.order → ZeroFrom (groups_read k g) 0
zeros_none k g h = rw (none_below g k h) (zeros_all k)

-- a buffer that begins with zeros, and one of them set
past : (k : ℕ) (ys : List ℕ) → drop k (zeros k ++ ys) ≡ ys
past zero ys = refl
past (suc k) ys = past k ys

stored : (o d v : ℕ) (ys : List ℕ) → set (zeros (suc (o + d)) ++ ys) o v ≡ zeros o ++ (v ∷ (zeros d ++ ys))
stored zero d v ys = let a : 0 + d ≡ d = omega arith in rw a refl
stored (suc o) d v ys = let a : suc o + d ≡ suc (o + d) = omega arith in rw a (ap (λ (l : List ℕ). 0 ∷ l) (stored o d v ys))

pub reads_none : (xs : List ℕ) (k : ℕ) → xs ≡ zeros k ++ drop k xs → (g h : Group) → g ≡ h → k ≤ h.order → xs ≡ groups_read k g ++ drop k xs
reads_none xs k z g h e l = z ∙ ap (λ (t : List ℕ). t ++ drop k xs) (sym (ap (groups_read k) e ∙ none_below h k l))

module _ (xs : List ℕ) (k : ℕ) (z : xs ≡ zeros k ++ drop k xs) (o v : ℕ) (h : o < k) where
  one_set : set xs o v ≡ zeros o ++ (v ∷ (zeros (k - suc o) ++ drop k xs))
  one_set =
      let q : suc (o + (k - suc o)) ≡ k = omega arith in
      ap (λ (l : List ℕ). set l o v) (z ∙ ap (λ (i : ℕ). zeros i ++ drop k xs) (sym q)) ∙ stored o (k - suc o) v (drop k xs)

  -- those below it are still 0
  behind_set : drop o (set xs o v) ≡ v ∷ (zeros (k - suc o) ++ drop k xs)
  behind_set = ap (drop o) one_set ∙ past o (v ∷ (zeros (k - suc o) ++ drop k xs))

  pub set_below : set xs o v ≡ zeros o ++ drop o (set xs o v)
  set_below = one_set ∙ ap (λ (l : List ℕ). zeros o ++ l) (sym behind_set)

  -- the code's answer: the group at the front of the text s, and those below it of the part behind it
  pub reads_below : (s ys : List ℕ) (at : ℕ) → seems 0 0 (meanings s) ≡ guess v o (meanings (drop at s)) → ys ≡ groups_read o (seems 0 0 (meanings (take (length s - at) (drop at s)))) ++ drop o (set xs o v)
      → ys ≡ groups_read k (seems 0 0 (meanings s)) ++ drop k xs
  reads_below s ys at e r =
      let q : suc (o + (k - suc o)) ≡ k = omega arith in
      let g = groups_read o (seems 0 0 (meanings (drop at s))) in
      let p : groups_read k (seems 0 0 (meanings s)) ≡ g ++ (v ∷ zeros (k - suc o)) = ap (groups_read k) e ∙ ap (λ (i : ℕ). groups_read i (guess v o (meanings (drop at s)))) (sym q) ∙ one_below v o (k - suc o) (meanings (drop at s)) in
      r ∙ rw (take_rest s at, behind_set) (sym (append_assoc g (v ∷ zeros (k - suc o)) (drop k xs))) ∙ ap (λ (l : List ℕ). l ++ drop k xs) (sym p)
