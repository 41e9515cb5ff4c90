-- Laws of a text's bytes moved and compared several at a time.
-- Assumes nothing.
use Prim.Native.Nat.{ℕ, ◌+◌, ◌-◌, ◌≤◌}
use mathlib.Core.Path.{◌≡◌, refl, sym, ap, ◌∙◌}
use mathlib.Core.Bool.{Bool, true, false}
use mathlib.Core.List.{List, ◌++◌, append_assoc}
use native.Mathlib.Omega.{arith}
use lib.ListN.{length, take, drop, length-drop, take-append-drop}
use lib.Seq.{length-take-le, take-length, drop-drop, take-add, take-append-le, take-take, drop-append-add, drop-append-le}
use Rattle.base.specs.Buffer.{over}
use Rattle.base.specs.Decides.{Decides}
use Rattle.base.specs.Front.{begins}
use Rattle.base.proofs.Fronts.{begins_is, begins_own}
use Rattle.words.specs.Moves.{seg, with}

-- ys is xs with the first k bytes of t over it
abbrev pub Upto : List ℕ → List ℕ → List ℕ → ℕ → Type 0
Upto t xs ys k = ys ≡ take k t ++ drop k xs

module _ (t : List ℕ) where
  -- one more part over what is written
  pub extend : (xs ys zs : List ℕ) (k j m : ℕ) → Upto t xs ys k → zs ≡ with j (seg j m t) m ys → j ≤ k → k ≤ j + m → j + m ≤ length t
      → Upto t xs zs (j + m)
  extend xs ys zs k j m e f h1 h2 h3 =
      let l : length (take k t) ≡ k = length-take-le k t (omega arith) in
      let a : take j ys ≡ take j t = rw (e, take-append-le j (take k t) (drop k xs) (omega arith)) (take-take j k t h1) in
      let q : length (take k t) + (j + m - k) ≡ j + m = omega arith in
      let r : k + (j + m - k) ≡ j + m = omega arith in
      let c : drop (j + m) ys ≡ drop (j + m) xs =
      ap (λ (n : ℕ). drop n ys) (sym q) ∙ ap (drop (length (take k t) + (j + m - k))) e ∙ drop-append-add (take k t) (drop k xs) (j + m - k)
      ∙ drop-drop (j + m - k) k xs ∙ ap (λ (n : ℕ). drop n xs) r in
      f ∙ rw (a, c) (sym (append_assoc (take j t) (seg j m t) (drop (j + m) xs)) ∙ ap (λ (l : List ℕ). l ++ drop (j + m) xs) (sym (take-add j m t)))

  -- all of it
  pub done : (xs ys : List ℕ) (k : ℕ) → Upto t xs ys k → k ≡ length t → ys ≡ over xs t
  done xs ys k e h = e ∙ rw (h, take-length t) refl

  -- eight bytes more, and the last eight
  pub eight_more : (xs ys zs : List ℕ) (k : ℕ) → Upto t xs ys k → zs ≡ with k (seg k 8 t) 8 ys → k + 8 ≤ length t → Upto t xs zs (k + 8)
  eight_more xs ys zs k e f h = extend xs ys zs k k 8 e f (omega arith) (omega arith) h

  pub last_eight : (xs ys zs : List ℕ) (k : ℕ) → Upto t xs ys k → zs ≡ with (length t - 8) (seg (length t - 8) 8 t) 8 ys → 8 ≤ length t → length t ≤ k + 8 → k ≤ length t
      → zs ≡ over xs t
  last_eight xs ys zs k e f h l m = done xs zs (length t - 8 + 8) (extend xs ys zs k (length t - 8) 8 e f (omega arith) (omega arith) (omega arith)) (omega arith)

  -- both ends, m bytes each
  pub ends : (xs ys zs : List ℕ) (m : ℕ) → m ≤ length t → length t ≤ m + m → ys ≡ with 0 (seg 0 m t) m xs → zs ≡ with (length t - m) (seg (length t - m) m t) m ys
      → zs ≡ over xs t
  ends xs ys zs m g h e f =
      done xs zs (length t - m + m) (extend xs ys zs (0 + m) (length t - m) m (extend xs xs ys 0 0 m refl e (omega arith) (omega arith) (omega arith)) f (omega arith) (omega arith) (omega arith)) (omega arith)

  -- the same places of another text
  module _ (s : List ℕ) where
    pub further : (k j m : ℕ) → take k s ≡ take k t → seg j m s ≡ seg j m t → j ≤ k → take (j + m) s ≡ take (j + m) t
    further k j m e f h =
        let a : take j s ≡ take j t = sym (take-take j k s h) ∙ ap (take j) e ∙ take-take j k t h in
        take-add j m s ∙ rw (a, f) (sym (take-add j m t))

    pub agreed : (k : ℕ) → take k s ≡ take k t → k ≡ length t → true ≡ begins t s
    agreed k e h =
        let a : take k s ≡ t = e ∙ rw h (take-length t) in
        let d : t ++ drop k s ≡ s = ap (λ (l : List ℕ). l ++ drop k s) (sym a) ∙ take-append-drop k s in
        sym (rw d at (begins_own t (drop k s)))

    pub apart : (j k : ℕ) → j + k ≤ length t → (seg j k s ≡ seg j k t → ⊥) → false ≡ begins t s
    apart j k h n = go (begins t s) refl
      where
        same : t ++ drop (length t) s ≡ s → seg j k s ≡ seg j k t
        same e =
            rw (← e, drop-append-le j t (drop (length t) s) (omega arith))
            (take-append-le k (drop j t) (drop (length t) s) (rw (length-drop j t) (omega arith)))

        go : (a : Bool) → begins t s ≡ a → false ≡ a
        go true e = absurd (n (same (begins_is t s e)))
        go false e = refl

    -- the last m bytes decide, where those before them agree
    pub last_on : (k j m : ℕ) (r : Bool) → take k s ≡ take k t → j ≤ k → j + m ≡ length t → Decides r (seg j m s ≡ seg j m t) → r ≡ begins t s
    last_on k j m true e h l d = agreed (j + m) (further k j m e (d.holds refl) h) l
    last_on k j m false e h l d = apart j m (omega arith) (d.fails refl)
