-- The guess, as the code's tests and steps have it.
-- Assumes nothing.
use Prim.Native.Nat.{ℕ, ◌+◌, ◌-◌, ◌*◌, ◌%◌, ◌<◌, ◌≤◌}
use mathlib.Core.Path.{◌≡◌, refl, sym, ap, ◌∙◌}
use mathlib.Core.Bool.{Bool, true, false, cond, ◌&&◌}
use mathlib.Core.List.{List, [], ◌∷◌}
use native.Mathlib.Omega.{arith}
use borrow.Author.Tests.{ne_eqb, le-ltb}
use lib.Dec.{eqb}
use lib.ListN.{length, drop, length-drop}
use Rattle.std.specs.Prelude.{Some, None}
use Rattle.tokens.specs.Tokens.{first_word, after_word, split}
use Rattle.tokens.proofs.Words.{split_first}
use Rattle.walker.specs.Walk.{found}
use Rattle.tokens.specs.declared.Token.{Token}
use Rattle.walker.proofs.Steps.{found_some, found_none, goes_on, goes_within, goes_far}
use Rattle.fr_meanings.specs.Meanings.{meaning_of}
use Rattle.fr_read.specs.Reading.{meant, meanings, grow, times, at_least_one, guess, seems, is_minus, behind_minus}
use Rattle.fr_read.proofs.Seeming.{seems_scale}

module _ (h c m : ℕ) (ms : List ℕ) where
  adds_cent : m ≡ 100 → seems h c (m ∷ ms) ≡ seems (times c) 0 ms
  unfolding seems
  adds_cent e = rw e refl

  adds_small : m ≤ 100 → (m ≡ 100 → ⊥) → seems h c (m ∷ ms) ≡ seems h (grow c m) ms
  unfolding seems
  adds_small l n = rw (le-ltb 100 m l, ne_eqb m 100 n) refl

-- the end of a text, as a word that means 0
ends : (h c : ℕ) → c < 100 → seems h c (0 ∷ []) ≡ seems h c []
ends h c l = adds_small h c 0 [] (omega arith) (λ q. omega (arith, q)) ∙ ap (λ (x : ℕ). seems h x []) (go (eqb c 4))
  where
    go : (t : Bool) → cond (t && false) 80 ((c + 0) % 100) ≡ c
    go true = omega arith
    go false = omega arith

-- the first word of a text, and of the part of it from a place on
first_means : (s : List ℕ) → 0 < length s → meanings s ≡ meant (first_word s) ∷ meanings (after_word s)
unfolding meanings
first_means s h = rw (split_first s h) refl

no_meanings : (s : List ℕ) → length s ≡ 0 → meanings s ≡ []
unfolding meanings split
no_meanings [] h = refl
no_meanings (b ∷ s) h = absurd (omega arith)

past_end : (s : List ℕ) (at : ℕ) → length s ≤ at → meanings (drop at s) ≡ []
past_end s at h = no_meanings (drop at s) (rw (length-drop at s) (omega arith))

-- a word that stands at a place of a text, and the end
module _ (s : List ℕ) (at : ℕ) (w : Token) (e : Some w ≡ found s at) where
  pub word_means : meanings (drop at s) ≡ meaning_of w.key ∷ meanings (drop (at + w.next) s)
  word_means = let f = found_some s at w e in first_means (drop at s) (omega (arith, length-drop at s)) ∙ rw (f.0, goes_on s at) refl

  pub moves : (at + w.next ≤ length s) × (0 < w.next)
  moves = let f = found_some s at w e in rw f.0 (goes_within s at (omega arith), goes_far s at f.1)

at_end : (s : List ℕ) (at : ℕ) → None ≡ found s at → meanings (drop at s) ≡ []
at_end s at e = past_end s at (found_none s at e)

-- a number below a hundred: one more word of it, the word that ends it, and the end of the text
module _ (s : List ℕ) (from c at : ℕ) (inv : (h : ℕ) → seems h 0 (meanings (drop from s)) ≡ seems h c (meanings (drop at s))) where
  module _ (m next : ℕ) (e : meanings (drop at s) ≡ m ∷ meanings (drop next s)) where
    pub low_more : m < 100 → (h : ℕ) → seems h 0 (meanings (drop from s)) ≡ seems h (grow c m) (meanings (drop next s))
    low_more l h = inv h ∙ ap (seems h c) e ∙ adds_small h c m (meanings (drop next s)) (omega arith) (λ q. omega (arith, q))

    pub low_word : (h : ℕ) → seems h 0 (meanings (drop from s)) ≡ seems h c (m ∷ meanings (drop next s))
    low_word h = inv h ∙ ap (seems h c) e

  pub low_end : c < 100 → length s ≤ at → (h : ℕ) → seems h 0 (meanings (drop from s)) ≡ seems h c (0 ∷ meanings (drop at s))
  low_end l n h = inv h ∙ rw (past_end s at n) (sym (ends h c l))

-- a group ends at a scale word, or with the text
module _ (s : List ℕ) (h at : ℕ) (inv : seems 0 0 (meanings s) ≡ seems h 0 (meanings (drop at s))) where
  module _ (c m next : ℕ) (part : (h : ℕ) → seems h 0 (meanings (drop at s)) ≡ seems h c (m ∷ meanings (drop next s))) where
    pub group_scale : 100 < m → seems 0 0 (meanings s) ≡ guess (at_least_one (100 * h + c)) (m - 1000) (meanings (drop next s))
    group_scale l = inv ∙ part h ∙ seems_scale h c m (meanings (drop next s)) l

    pub group_cent : m ≡ 100 → seems 0 0 (meanings s) ≡ seems (times c) 0 (meanings (drop next s))
    group_cent e = inv ∙ part h ∙ adds_cent h c m (meanings (drop next s)) e

    pub group_low : c < 100 → m ≡ 0 → length s ≤ next → seems 0 0 (meanings s) ≡ guess (100 * h + c) 0 (meanings (drop next s))
    unfolding seems
    group_low l e n = inv ∙ part h ∙ rw (e, past_end s next n) (ends h c l)

  pub group_end : length s ≤ at → seems 0 0 (meanings s) ≡ guess (100 * h) 0 (meanings (drop at s))
  unfolding seems
  group_end n = let z : 100 * h + 0 ≡ 100 * h = omega arith in inv ∙ rw (past_end s at n, z) refl

-- the sign: whether it stands there, and what is behind n bytes
abbrev pub Sign : Bool → ℕ → List ℕ → Type 0
Sign b n s = (b ≡ is_minus (meanings s)) × (meanings (drop n s) ≡ behind_minus (meanings s)) × (n ≤ length s)

pub sign_none : (s : List ℕ) → None ≡ found s 0 → Sign false 0 s
sign_none s e = rw (at_end s 0 e) (refl, refl, omega arith)

module _ (s : List ℕ) (w : Token) (m : ℕ) (e : Some w ≡ found s 0) (f : m ≡ meaning_of w.key) where
  first : meanings s ≡ m ∷ meanings (drop w.next s)
  first = let z : 0 + w.next ≡ w.next = omega arith in rw (f, ← z) (word_means s 0 w e)

  pub sign_some : m ≡ 2001 → Sign true w.next s
  sign_some q = let l = moves s 0 w e in rw (first, q) (refl, refl, omega arith)

  pub sign_other : (m ≡ 2001 → ⊥) → Sign false 0 s
  sign_other q =
      let a : false ≡ is_minus (meanings s) = rw (first, ne_eqb m 2001 q) refl in
      (a, rw (← a) refl, omega arith)
