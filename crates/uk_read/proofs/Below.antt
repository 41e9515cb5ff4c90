-- The groups below an order, where the next group's order is known: none, or that group and those below it.
-- Assumes nothing.
use Prim.Native.Nat.{ℕ, zero, suc, ◌+◌, ◌-◌, ◌<◌, ◌≤◌}
use mathlib.Core.Path.{◌≡◌, refl, sym, ◌∙◌, ap}
use mathlib.Core.Bool.{Bool, true, false, cond}
use mathlib.Core.List.{List, [], ◌∷◌, ◌++◌, append-nil, append_assoc}
use native.Mathlib.Omega.{arith}
use borrow.Author.Tests.{eq-eqb, ne_eqb, eqb-true}
use lib.Dec.{eqb}
use lib.ListN.{length, length-take, take, drop, set, replicate, take-append-drop, length-replicate, replicate-append-replicate}
use lib.Seq.{drop-drop, length-take-le, set_split, take-take, take-set-le, drop-append-le, drop-append_seam, take-append_seam}
use Rattle.base.specs.Join.{Word}
use Rattle.figures.specs.Groups.{Groups}
use Rattle.groups.specs.Highest.{ZeroFrom}
use Rattle.groups.proofs.Highest.{zeros_all, zeros_then, zeros_past}
use Rattle.std.proofs.lemmas.List.{take_rest}
use Rattle.tokens.specs.Tokens.{split}
use Rattle.uk_read.specs.Reading.{taken, sums, left}
use Rattle.uk_read.proofs.Falls.{sums_length}

abbrev pub zeros : ℕ → List ℕ
zeros k = replicate k 0

zeros_more : (k : ℕ) → zeros k ++ (0 ∷ []) ≡ zeros (suc k)
zeros_more k = let e : k + 1 ≡ suc k = omega arith in replicate-append-replicate k 1 0 ∙ ap zeros e

module _ (ws : List Word) where
  -- the next group is of order k or above
  pub none_below : (k : ℕ) → k ≤ (taken 0 ws).order → (sums k ws ≡ zeros k) × (left k ws ≡ ws)
  unfolding sums left
  none_below zero h = (refl, refl)
  none_below (suc k) h =
      let p = none_below k (omega arith) in
      let n = ne_eqb (taken 0 ws).order k (λ z. omega arith) in
      (rw (n, p.0) (zeros_more k), rw n p.1)

  -- it is of a lower order
  pub one_below : (o d : ℕ) → (taken 0 ws).order ≡ o
      → (sums (suc (o + d)) ws ≡ sums o (taken 0 ws).rest ++ ((taken 0 ws).value ∷ zeros d)) × (left (suc (o + d)) ws ≡ left o (taken 0 ws).rest)
  unfolding sums left
  one_below o zero e =
      let a : o + 0 ≡ o = omega arith in
      let n = eq-eqb (taken 0 ws).order o e in
      (rw (a, n) refl, rw (a, n) refl)
  one_below o (suc d) e =
      let p = one_below o d e in
      let a : o + suc d ≡ suc (o + d) = omega arith in
      let n = ne_eqb (taken 0 ws).order (suc (o + d)) (λ z. omega arith) in (
        rw (a, n, p.0) (append_assoc (sums o (taken 0 ws).rest) ((taken 0 ws).value ∷ zeros d) (0 ∷ []) ∙ rw (zeros_more d) refl),
        rw (a, n) p.1,
      )

-- the orders above the next group are 0
pub zeros_above : (k : ℕ) (ws : List Word) → ZeroFrom (sums k ws) ((taken 0 ws).order + 1)
unfolding sums
zeros_above zero ws = λ i h. refl
zeros_above (suc k) ws = go (eqb (taken 0 ws).order k) refl (zeros_above k ws)
  where
    go : (t : Bool) → eqb (taken 0 ws).order k ≡ t → ZeroFrom (sums k ws) ((taken 0 ws).order + 1)
        → ZeroFrom (cond t (sums k (taken 0 ws).rest ++ ((taken 0 ws).value ∷ [])) (sums k ws ++ (0 ∷ []))) ((taken 0 ws).order + 1)
    go true e z = zeros_past (sums k (taken 0 ws).rest) (taken 0 ws).value ((taken 0 ws).order + 1) (omega (arith, eqb-true (taken 0 ws).order k e, sums_length k (taken 0 ws).rest))
    go false e z = zeros_then (sums k ws) ((taken 0 ws).order + 1) z

-- a buffer of groups whose first k are 0 has them
pub holds : (xs : List ℕ) (k : ℕ) → take k xs ≡ zeros k → k ≤ length xs
holds xs k z = omega (arith, length-take k xs, ap length z, length-replicate {A = ℕ} k 0)

-- a buffer of groups whose first k are 0
module _ (xs : List ℕ) (k : ℕ) (z : take k xs ≡ zeros k) where
  split_at : zeros k ++ drop k xs ≡ xs
  split_at = rw (← z) (take-append-drop k xs)

  -- one of them set: those below it are still 0
  pub set_below : (o v : ℕ) → o < k → take o (set xs o v) ≡ zeros o
  set_below o v h = take-set-le o xs o v (omega arith) ∙ sym (take-take o k xs (omega arith)) ∙ ap (take o) z ∙ taken_zeros o (k - o) k (omega arith)
    where
      taken_zeros : (o d k : ℕ) → o + d ≡ k → take o (zeros k) ≡ zeros o
      taken_zeros o d k e =
          let l = length-replicate {A = ℕ} o 0 in
          rw (← e, ← replicate-append-replicate {A = ℕ} o d 0) (rw l at (take-append_seam (zeros o) (zeros d)))

  -- with the groups below it read, and those above it still 0
  pub set_reads : (o v : ℕ) (r : List ℕ) → o < k → k ≤ length xs → length r ≡ o → r ++ drop o (set xs o v) ≡ (r ++ (v ∷ zeros (k - suc o))) ++ drop k xs
  set_reads o v r h l e =
      let m = length-take-le o xs (omega arith) in
      let a : drop o (set xs o v) ≡ v ∷ drop (suc o) xs =
      ap (drop o) (set_split xs o v (omega arith)) ∙ ap (λ (i : ℕ). drop i (take o xs ++ (v ∷ drop (suc o) xs))) (sym m)
      ∙ drop-append_seam (take o xs) (v ∷ drop (suc o) xs) in
      let b : drop (suc o) xs ≡ zeros (k - suc o) ++ drop k xs =
      ap (drop (suc o)) (sym split_at) ∙ drop-append-le (suc o) (zeros k) (drop k xs) (rw length-replicate (omega arith))
      ∙ ap (λ (t : List ℕ). t ++ drop k xs) (dropped_zeros (suc o) (k - suc o) k (omega arith)) in
      ap (λ (t : List ℕ). r ++ t) (a ∙ ap (λ (t : List ℕ). v ∷ t) b) ∙ sym (append_assoc r (v ∷ zeros (k - suc o)) (drop k xs))
    where
      dropped_zeros : (o d k : ℕ) → o + d ≡ k → drop o (zeros k) ≡ zeros d
      dropped_zeros o d k e =
          let l = length-replicate {A = ℕ} o 0 in
          rw (← e, ← replicate-append-replicate {A = ℕ} o d 0) (rw l at (drop-append_seam (zeros o) (zeros d)))

-- the code's answer where there is no group below order k
pub no_groups : (s xs : List ℕ) (k : ℕ) → take k xs ≡ zeros k → k ≤ (taken 0 (split s)).order
    → ((xs ≡ sums k (split s) ++ drop k xs) × (Groups xs → Groups xs)) × ((split s ≡ left k (split s)) × (0 ≤ length s)) × (ZeroFrom (sums k (split s)) 0 × (0 ≤ k))
no_groups s xs k z h =
    let n = none_below (split s) k h in
    ((sym (rw n.0 (split_at xs k z)), λ q. q), (sym n.1, omega arith), (rw n.0 (zeros_all k), omega arith))

-- a group below 1000 set among such groups
pub set_groups : (xs : List ℕ) (i v : ℕ) → v < 1000 → Groups xs → Groups (set xs i v)
set_groups [] i v h g = tt
set_groups (x ∷ xs) zero v h g = (h, g.1)
set_groups (x ∷ xs) (suc i) v h g = (g.0, set_groups xs i v h g.1)

-- the code's answer: a group taken of the text s, and those below it of the part behind it
module _ (s xs ys : List ℕ) (k o v at n : ℕ) (z : take k xs ≡ zeros k) (h : o < k) where
  pub reads_below : v ≡ (taken 0 (split s)).value → o ≡ (taken 0 (split s)).order → split (drop at s) ≡ (taken 0 (split s)).rest
      → ys ≡ sums o (split (take (length s - at) (drop at s))) ++ drop o (set xs o v) → ys ≡ sums k (split s) ++ drop k xs
  reads_below a b c e =
      let w = split s in
      let q : suc (o + (k - suc o)) ≡ k = omega arith in
      let r : split (take (length s - at) (drop at s)) ≡ (taken 0 w).rest = ap split (take_rest s at) ∙ c in
      let p : sums k w ≡ sums o (taken 0 w).rest ++ ((taken 0 w).value ∷ zeros (k - suc o)) =
      ap (λ (i : ℕ). sums i w) (sym q) ∙ (one_below w o (k - suc o) (sym b)).0 in
      e ∙ ap (λ (t : List Word). sums o t ++ drop o (set xs o v)) r ∙ set_reads xs k z o v (sums o (taken 0 w).rest) h (holds xs k z) (sums_length o (taken 0 w).rest)
      ∙ ap (λ (i : ℕ). (sums o (taken 0 w).rest ++ (i ∷ zeros (k - suc o))) ++ drop k xs) a ∙ ap (λ (t : List ℕ). t ++ drop k xs) (sym p)

  pub left_below : o ≡ (taken 0 (split s)).order → split (drop at s) ≡ (taken 0 (split s)).rest → split (drop n (take (length s - at) (drop at s))) ≡ left o (split (take (length s - at) (drop at s)))
      → split (drop (at + n) s) ≡ left k (split s)
  left_below b c e =
      let w = split s in
      let q : suc (o + (k - suc o)) ≡ k = omega arith in
      let r : split (take (length s - at) (drop at s)) ≡ (taken 0 w).rest = ap split (take_rest s at) ∙ c in
      let p : left k w ≡ left o (taken 0 w).rest = ap (λ (i : ℕ). left i w) (sym q) ∙ (one_below w o (k - suc o) (sym b)).1 in
      ap split (sym (drop-drop n at s)) ∙ ap (λ (t : List ℕ). split (drop n t)) (sym (take_rest s at)) ∙ e ∙ ap (left o) r ∙ sym p

pub zeros_groups : (k : ℕ) → Groups (zeros k)
zeros_groups zero = tt
zeros_groups (suc k) = (omega arith, zeros_groups k)

-- all groups of words, stored over zeros, and the orders that they have at most
pub record All (ws : List Word) (gs : List ℕ) (n : ℕ) : Type 0 where
  pub size : length gs ≡ 22
  pub small : Groups gs
  pub groups : gs ≡ sums 22 ws
  pub few : n ≤ length gs
  pub above : ZeroFrom gs n

-- the code reads them of a text
pub all_made : (s xs ys : List ℕ) (n : ℕ) → xs ≡ zeros 22 → ys ≡ sums 22 (split s) ++ drop 22 xs → (Groups xs → Groups ys) → ZeroFrom (sums 22 (split s)) n → n ≤ 22 → All (split s) ys n
all_made s xs ys n z e g a f =
    let q : ys ≡ sums 22 (split s) = e ∙ ap (λ (l : List ℕ). sums 22 (split s) ++ drop 22 l) z ∙ append-nil _ in
    let l : length ys ≡ 22 = ap length q ∙ sums_length 22 (split s) in
    record { size = l; small = g (rw z (zeros_groups 22)); groups = q; few = omega arith; above = rw q a }

-- the code reads them of the part of the text s from a place on
pub all_read : (s xs ys : List ℕ) (at n : ℕ) (ws : List Word) → split (drop at s) ≡ ws → xs ≡ zeros 22 → ys ≡ sums 22 (split (take (length s - at) (drop at s))) ++ drop 22 xs
    → (Groups xs → Groups ys) → ZeroFrom (sums 22 (split (take (length s - at) (drop at s)))) n → n ≤ 22 → All ws ys n
all_read s xs ys at n ws w z e g a f = rw (take_rest s at, w) at (all_made (take (length s - at) (drop at s)) xs ys n z e g a f)
