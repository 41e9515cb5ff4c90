-- What is made of groups of falling order is their value.
-- Assumes nothing.
use Prim.Native.Nat.{ℕ, zero, suc, ◌+◌, ◌-◌, ◌*◌, ◌%◌, ◌^◌, ◌<◌, ◌≤◌}
use mathlib.Core.Path.{◌≡◌, refl, sym, ◌∙◌, ap}
use mathlib.Core.Bool.{Bool, true, false, cond}
use mathlib.Core.List.{List, [], ◌∷◌, ◌++◌, append_assoc}
use native.Mathlib.Nat.{pow-succ'}
use native.Mathlib.Omega.{arith}
use borrow.Author.Tests.{eq-eqb, ne_eqb}
use lib.Arith.{digits_lt}
use lib.Dec.{eqb, ltb}
use lib.ListN.{length, length-append}
use Rattle.base.specs.Join.{Word}
use Rattle.figures.specs.Groups.{total, Groups}
use Rattle.settings.specs.Settings.{Settings}
use Rattle.cardinals.specs.Grammar.{Falling, end, skip, group}
use Rattle.uk.specs.Ukrainian.{ukrainian}
use Rattle.uk_read.specs.Reading.{mean, Taken, taken, sums, left}
use Rattle.uk_read.proofs.Known.{Lawful}
use Rattle.uk_read.proofs.Taking.{closed, Stops, stops, group_taken}

pub sums_length : (k : ℕ) (ws : List Word) → length (sums k ws) ≡ k
unfolding sums
sums_length zero ws = refl
sums_length (suc k) ws = go (eqb (taken 0 ws).order k) (sums_length k (taken 0 ws).rest) (sums_length k ws)
  where
    go : (t : Bool) → length (sums k (taken 0 ws).rest) ≡ k → length (sums k ws) ≡ k
        → length (cond t (sums k (taken 0 ws).rest ++ ((taken 0 ws).value ∷ [])) (sums k ws ++ (0 ∷ []))) ≡ suc k
    go true a b = rw length-append (omega arith)
    go false a b = rw length-append (omega arith)

total_more : (gs : List ℕ) (g : ℕ) → total (gs ++ (g ∷ [])) ≡ g * 1000 ^ length gs + total gs
total_more [] g = omega arith
total_more (x ∷ gs) g = rw (total_more gs g, pow-succ' 1000 (length gs)) (omega arith)

-- every group that is taken is below 1000, and so is what is made of any words within its orders
taken_small : (v : ℕ) (ws : List Word) → v < 1000 → (taken v ws).value < 1000
unfolding taken
taken_small v [] h = h
taken_small v (w ∷ ws) h = go (eqb (mean w) 0) (ltb 999 (mean w)) (taken_small ((v + mean w) % 1000) ws (omega arith))
  where
    go : (a b : Bool) → (taken ((v + mean w) % 1000) ws).value < 1000
        → (cond a (closed v 0 (w ∷ ws)) (cond b (closed v (mean w - 1000) ws) (taken ((v + mean w) % 1000) ws))).value < 1000
    go true b l = h
    go false true l = h
    go false false l = l

more_small : (gs : List ℕ) (k g : ℕ) → length gs ≡ k → g < 1000 → total gs < 1000 ^ k → total (gs ++ (g ∷ [])) < 1000 ^ suc k
more_small gs k g e h t = rw (total_more gs g, e, pow-succ' 1000 k) (digits_lt h t)

pub sums_small : (k : ℕ) (ws : List Word) → total (sums k ws) < 1000 ^ k
unfolding sums
sums_small zero ws = omega arith
sums_small (suc k) ws = go (eqb (taken 0 ws).order k) (sums_small k (taken 0 ws).rest) (sums_small k ws)
  where
    go : (t : Bool) → total (sums k (taken 0 ws).rest) < 1000 ^ k → total (sums k ws) < 1000 ^ k
        → total (cond t (sums k (taken 0 ws).rest ++ ((taken 0 ws).value ∷ [])) (sums k ws ++ (0 ∷ []))) < 1000 ^ suc k
    go true a b = more_small (sums k (taken 0 ws).rest) k (taken 0 ws).value (sums_length k (taken 0 ws).rest) (taken_small 0 ws (omega arith)) a
    go false a b = more_small (sums k ws) k 0 (sums_length k ws) (omega arith) b

-- every group of what is made of any words has at most three digits
groups_more : (gs : List ℕ) (g : ℕ) → g < 1000 → Groups gs → Groups (gs ++ (g ∷ []))
groups_more [] g h p = (h, tt)
groups_more (x ∷ gs) g h p = (p.0, groups_more gs g h p.1)

pub sums_groups : (k : ℕ) (ws : List Word) → Groups (sums k ws)
unfolding sums
sums_groups zero ws = tt
sums_groups (suc k) ws = go (eqb (taken 0 ws).order k) (sums_groups k (taken 0 ws).rest) (sums_groups k ws)
  where
    go : (t : Bool) → Groups (sums k (taken 0 ws).rest) → Groups (sums k ws)
        → Groups (cond t (sums k (taken 0 ws).rest ++ ((taken 0 ws).value ∷ [])) (sums k ws ++ (0 ∷ [])))
    go true a b = groups_more (sums k (taken 0 ws).rest) (taken 0 ws).value (taken_small 0 ws (omega arith)) a
    go false a b = groups_more (sums k ws) 0 (omega arith) b

-- a group of order k is taken; where the next is of a lower order, 0
module _ (k : ℕ) (ws : List Word) where
  pub sums_taken : (v : ℕ) (r : List Word) → taken 0 ws ≡ closed v k r → (total (sums (suc k) ws) ≡ v * 1000 ^ k + total (sums k r)) × (left (suc k) ws ≡ left k r)
  unfolding sums left
  sums_taken v r e =
      (rw (e, eq-eqb k k refl, total_more (sums k r) v, sums_length k r) refl, rw (e, eq-eqb k k refl) refl)

  pub sums_over : ((taken 0 ws).order ≡ k → ⊥) → (total (sums (suc k) ws) ≡ total (sums k ws)) × (left (suc k) ws ≡ left k ws)
  unfolding sums left
  sums_over n =
      let z : total (sums k ws ++ (0 ∷ [])) ≡ total (sums k ws) = total_more (sums k ws) 0 ∙ omega arith in
      (rw (ne_eqb (taken 0 ws).order k n) z, rw (ne_eqb (taken 0 ws).order k n) refl)

-- a group of order 0 alone
pub lone : (ws : List Word) (v : ℕ) (r : List Word) → taken 0 ws ≡ closed v 0 r → (k : ℕ) → total (sums (suc k) ws) ≡ v
unfolding sums
lone ws v r e zero = (sums_taken 0 ws v r e).0 ∙ omega arith
lone ws v r e (suc k) =
    let o : (taken 0 ws).order ≡ 0 = ap (λ (t : Taken). t.order) e in
    (sums_over (suc k) ws (λ z. omega arith)).0 ∙ lone ws v r e k

module _ (S : Settings) (L : Lawful S) (tail : List Word) (s : Stops tail) where
  -- nothing below order 0, and above it the next group is of a lower order
  nothing : {ws : List Word} {n : ℕ} → Falling (ukrainian S) 0 ws n → (ws ≡ []) × (n ≡ 0)
  nothing end = (refl, refl)

  lowest : {k : ℕ} {ws : List Word} {n : ℕ} → k ≡ 0 → Falling (ukrainian S) k ws n → Stops (ws ++ tail)
  lowest z end = s
  lowest z (skip f) = absurd (omega arith)
  lowest z (group g a b f) = absurd (omega arith)

  order_below : {k : ℕ} {ws : List Word} {n : ℕ} → Falling (ukrainian S) (suc k) ws n → k < 22 → (taken 0 (ws ++ tail)).order < suc k
  order_below {k = zero} (skip f) i = rw ((nothing f).0, stops 0 tail s) (omega arith)
  order_below {k = suc k} (skip f) i = let h = order_below f (omega arith) in omega arith
  order_below {k = k} (group {ws = ws} g a b f) i =
      rw (append_assoc ((ukrainian S).group_words k g) ws tail, group_taken S L k g (ws ++ tail) i b (λ z. lowest z f)) (omega arith)

  pub reads_falling : {k : ℕ} {ws : List Word} {n : ℕ} → Falling (ukrainian S) k ws n → k ≤ 22 → (total (sums k (ws ++ tail)) ≡ n) × (left k (ws ++ tail) ≡ tail)
  unfolding sums left
  reads_falling end i = (refl, refl)
  reads_falling (skip {k = zero} {ws = ws} {n = n} f) i =
      let e = nothing f in
      let p = sums_taken 0 (ws ++ tail) 0 tail (rw e.0 (stops 0 tail s)) in
      (p.0 ∙ sym e.1, p.1)
  reads_falling (skip {k = suc k} {ws = ws} f) i =
      let p = sums_over (suc k) (ws ++ tail) (λ z. let h = order_below f (omega arith) in omega arith) in
      let q = reads_falling f (omega arith) in
      (p.0 ∙ q.0, p.1 ∙ q.1)
  reads_falling (group {k = k} {ws = ws} g a b f) i =
      let e : taken 0 (((ukrainian S).group_words k g ++ ws) ++ tail) ≡ closed g k (ws ++ tail) =
      rw (append_assoc ((ukrainian S).group_words k g) ws tail) (group_taken S L k g (ws ++ tail) i b (λ z. lowest z f)) in
      let p = sums_taken k (((ukrainian S).group_words k g ++ ws) ++ tail) g (ws ++ tail) e in
      let q = reads_falling f (omega arith) in
      (p.0 ∙ ap (λ (x : ℕ). g * 1000 ^ k + x) q.0, p.1 ∙ q.1)
