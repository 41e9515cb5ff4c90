-- Laws of taking a text word by word.
-- Assumes nothing.
use Prim.Native.Nat.{ℕ, ◌<◌}
use mathlib.Core.Path.{◌≡◌, refl, ap, ◌∙◌}
use mathlib.Core.Bool.{Bool, true, false, cond, ◌&&◌, not}
use mathlib.Core.List.{List, [], ◌∷◌, ◌++◌, append-nil}
use native.Mathlib.Omega.{arith}
use borrow.Author.Tests.{not-true}
use lib.ListN.{length}
use Rattle.tables.proofs.Tests.{clash_of, both_hold}
use Rattle.base.specs.Join.{Word, spaced_by, joined}
use Rattle.base.specs.Signs.{space}
use Rattle.tokens.specs.Tokens.{is_gap, first_word, after_word, split}
use Rattle.base.specs.Divide.{to_first}

-- a text that is not empty begins with its first word
pub split_first : (s : List ℕ) → 0 < length s → split s ≡ first_word s ∷ split (after_word s)
unfolding split first_word after_word
split_first [] h = absurd (omega arith)
split_first (b ∷ []) h = go (is_gap b)
  where
    go : (t : Bool) → cond t ([] ∷ []) ((b ∷ []) ∷ []) ≡ cond t [] (b ∷ []) ∷ split (cond t [] [])
    go true = refl
    go false = refl
split_first (b ∷ c ∷ s) h = go (is_gap b) (split_first (c ∷ s) (omega arith))
  where
    go : (t : Bool) → split (c ∷ s) ≡ first_word (c ∷ s) ∷ split (after_word (c ∷ s))
        → cond t ([] ∷ split (c ∷ s)) (to_first b (split (c ∷ s))) ≡ cond t [] (b ∷ first_word (c ∷ s)) ∷ split (cond t (c ∷ s) (after_word (c ∷ s)))
    go true e = refl
    go false e = ap (to_first b) e

-- words without a gap, which are told apart again in a text
abbrev pub is_word : Word → Bool
is_word [] = false
is_word (b ∷ []) = not (is_gap b)
is_word (b ∷ c ∷ w) = not (is_gap b) && is_word (c ∷ w)

-- a word before a gap, and a word alone
pub split_more : (w : Word) (g : ℕ) (r : List ℕ) → is_word w ≡ true → is_gap g ≡ true → split (w ++ (g ∷ r)) ≡ w ∷ split r
unfolding split
split_more [] g r h e = clash_of h
split_more (b ∷ []) g r h e = rw (not-true (is_gap b) h, e) refl
split_more (b ∷ c ∷ w) g r h e =
    let p = both_hold (not (is_gap b)) (is_word (c ∷ w)) h in
    let m : split ((c ∷ w) ++ (g ∷ r)) ≡ (c ∷ w) ∷ split r = split_more (c ∷ w) g r p.1 e in
    rw (not-true (is_gap b) p.0) (ap (to_first b) m)

pub split_last : (w : Word) → is_word w ≡ true → split w ≡ w ∷ []
unfolding split
split_last [] h = clash_of h
split_last (b ∷ []) h = rw (not-true (is_gap b) h) refl
split_last (b ∷ c ∷ w) h =
    let p = both_hold (not (is_gap b)) (is_word (c ∷ w)) h in
    let m : split (c ∷ w) ≡ (c ∷ w) ∷ [] = split_last (c ∷ w) p.1 in
    rw (not-true (is_gap b) p.0) (ap (to_first b) m)

-- words joined by spaces are told apart again
abbrev pub Separable : List Word → Type 0
Separable [] = Unit {0}
Separable (w ∷ ws) = (is_word w ≡ true) × Separable ws

pub split_joined : (ws : List Word) → Separable ws → split (joined ws) ≡ ws
unfolding split
split_joined [] s = refl
split_joined (w ∷ []) s = ap split (append-nil w) ∙ split_last w s.0
split_joined (w ∷ v ∷ ws) s = split_more w 32 (v ++ spaced_by space ws) s.0 refl ∙ ap (λ (l : List Word). w ∷ l) (split_joined (v ∷ ws) s.1)
