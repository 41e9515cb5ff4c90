-- The words of a line, and the line cut word by word from the front: one word, or a word and what is behind its space.
-- Assumes nothing.
use Prim.Native.Nat.{ℕ, suc, ◌+◌, ◌-◌}
use mathlib.Core.Path.{◌≡◌, refl, ◌∙◌}
use mathlib.Core.Bool.{Bool, true, false, cond, not, ◌&&◌}
use mathlib.Core.List.{List, [], ◌∷◌}
use native.Mathlib.Omega.{arith}
use borrow.Author.Tests.{eqb-true}
use lib.Dec.{eqb}
use lib.ListN.{length, get_or, take, drop}
use Rattle.std.specs.List.{position_or_len}
use mathlib.Core.Option.{Option, none, some}
use Rattle.base.specs.Answer.{Spelling}
use Rattle.base.specs.Join.{Word}
use Rattle.phrases_forms.specs.Line.{words_of, free, run, inner, closed, text_form, code_form}
use Rattle.base.specs.Divide.{divided}
use Rattle.phrases_forms.specs.Cuts.{next_word, after_space, text_left, code_left}

-- a space stands in the line
pub data Spaced : List ℕ → Type 0 where
  here : {b : ℕ} {s : List ℕ} → b ≡ 32 → Spaced (b ∷ s)
  there : {b : ℕ} {s : List ℕ} → Spaced s → Spaced (b ∷ s)

pub data Cut (s : List ℕ) : Type 0 where
  one : words_of s ≡ next_word s ∷ [] → next_word s ≡ s → after_space s ≡ [] → Cut s
  more : words_of s ≡ next_word s ∷ words_of (after_space s) → Spaced s → Cut s

-- a byte before the first space
take_on : (n b : ℕ) (s : List ℕ) → take (1 + n) (b ∷ s) ≡ b ∷ take n s
take_on n b s = let k : 1 + n ≡ suc n = omega arith in rw k refl

drop_on : (n b : ℕ) (s : List ℕ) → drop ((1 + n) + 1) (b ∷ s) ≡ drop (n + 1) s
drop_on n b s = let k : (1 + n) + 1 ≡ suc (n + 1) = omega arith in rw k refl

next_on : (b : ℕ) (s : List ℕ) → eqb b 32 ≡ false → next_word (b ∷ s) ≡ b ∷ next_word s
unfolding next_word
next_on b s e = rw e (take_on (position_or_len (λ c. eqb c 32) s) b s)

after_on : (b : ℕ) (s : List ℕ) → eqb b 32 ≡ false → after_space (b ∷ s) ≡ after_space s
unfolding after_space
after_on b s e = rw e (drop_on (position_or_len (λ c. eqb c 32) s) b s)

words_on : (b : ℕ) (s : List ℕ) (w : Word) (ws : List Word) → eqb b 32 ≡ false → words_of s ≡ w ∷ ws → words_of (b ∷ s) ≡ (b ∷ w) ∷ ws
unfolding divided
words_on b s w ws e f = rw (e, f) refl

-- a line that begins with a space
space_first : (b : ℕ) (s : List ℕ) → eqb b 32 ≡ true → Cut (b ∷ s)
unfolding divided next_word after_space
space_first b s e = more (rw e refl) (here (eqb-true b 32 e))

nothing : Cut []
unfolding divided next_word after_space
nothing = one refl refl refl

pub cut : (s : List ℕ) → Cut s
cut [] = nothing
cut (b ∷ s) = go (eqb b 32) refl (cut s)
  where
    go : (t : Bool) → eqb b 32 ≡ t → Cut s → Cut (b ∷ s)
    go true e c = space_first b s e
    go false e (one w f a) = one (words_on b s (next_word s) [] e w ∙ rw (next_on b s e) refl) (rw (next_on b s e, f) refl) (rw (after_on b s e) a)
    go false e (more w h) = more (words_on b s (next_word s) (words_of (after_space s)) e w ∙ rw (next_on b s e, after_on b s e) refl) (there h)

-- no text with its bracket has a space in it
shut : List ℕ → Bool
shut s = free (inner s) && eqb (get_or s (length s - 1) 0) 41

and_none : (a b c : Bool) → (b && c) ≡ false → ((a && b) && c) ≡ false
and_none true b c e = e
and_none false b c e = refl

shut_spaced : (s : List ℕ) → Spaced s → shut s ≡ false
unfolding shut
shut_spaced [] h = elim h [ ]
shut_spaced (b ∷ []) (there h) = elim h [ ]
shut_spaced (b ∷ []) (here e) = rw e refl
shut_spaced (b ∷ c ∷ s) (here e) = let k : suc (suc (length s)) - 1 ≡ suc (length s) = omega arith in rw (k, e) refl
shut_spaced (b ∷ c ∷ s) (there h) =
    let k : suc (suc (length s)) - 1 ≡ suc (length s) = omega arith in
    let l : suc (length s) - 1 ≡ length s = omega arith in
    rw k (and_none (not (eqb b 32) && (not (eqb b 40) && not (eqb b 41))) (free (take (length s) (c ∷ s))) _ (rw l at (shut_spaced (c ∷ s) h)))

closed_spaced : (s : List ℕ) → Spaced s → closed s ≡ false
unfolding shut
closed_spaced s h = and_none (not (eqb (length (inner s)) 0)) (free (inner s)) (eqb (get_or s (length s - 1) 0) 41) (shut_spaced s h)

-- what is asked for by the last words of a form is what is left of it
pub text_is : (call : List ℕ → Spelling) (s : List ℕ) → text_form call (words_of s) ≡ text_left call s
text_is call s = go (cut s)
  where
    two : (w : Word) (t : List ℕ) → text_form call (w ∷ words_of t) ≡ none
    two w t = ends (cut t)
      where
        ends : Cut t → text_form call (w ∷ words_of t) ≡ none
        ends (one e f a) = rw e refl
        ends (more e h) = rw e refl

    go : Cut s → text_form call (words_of s) ≡ text_left call s
    go (one w f a) = rw (w, f) refl
    go (more w h) = rw (w, two (next_word s) (after_space s), closed_spaced s h) refl

pub code_is : (call : List ℕ → List ℕ → Spelling) (s : List ℕ) → code_form call (words_of s) ≡ code_left call (next_word s) (after_space s)
code_is call s = go (cut s)
  where
    both : (a b : Bool) (x : Option Spelling) → cond a (cond b x none) none ≡ cond (a && b) x none
    both true b x = refl
    both false b x = refl

    go : Cut s → code_form call (words_of s) ≡ code_left call (next_word s) (after_space s)
    go (one w f a) = rw (w, a) (both (run (next_word s)) false (some (call (next_word s) [])))
    go (more w h) = rw (w, text_is (call (next_word s)) (after_space s)) (both (run (next_word s)) (closed (after_space s)) _)
