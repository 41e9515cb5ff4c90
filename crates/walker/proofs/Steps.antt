-- Laws of a walk: the word at a place is the first of what is left, and what is behind it is left then.
-- Assumes nothing.
use Prim.Native.Nat.{ℕ, suc, ◌+◌, ◌-◌, ◌<◌, ◌≤◌}
use mathlib.Core.Path.{◌≡◌, refl, sym, ap, ◌∙◌}
use mathlib.Core.Bool.{Bool, true, false, cond}
use mathlib.Core.List.{List, [], ◌∷◌}
use native.Mathlib.Omega.{arith}
use borrow.Author.Tests.{ltb-true, ltb-false}
use lib.Dec.{ltb}
use lib.ListN.{length, drop, length-drop, drop_of_length-le}
use lib.Seq.{drop-drop}
use Rattle.std.specs.Prelude.{Some, None}
use Rattle.tokens.specs.Tokens.{is_gap, first_word, after_word, full_key, key}
use Rattle.tokens.specs.declared.Token.{Token}
use Rattle.walker.specs.declared.Walker.{Walker}
use Rattle.walker.specs.declared.Step.{Step}
use Rattle.walker.specs.Step.{step_of}
use Rattle.walker.specs.Walk.{span, word_at, found}

-- what is behind a text's first word is shorter
behind_le : (s : List ℕ) → length (after_word s) ≤ length s
unfolding after_word
behind_le [] = omega arith
behind_le (b ∷ s) = go (is_gap b) (behind_le s)
  where
    go : (t : Bool) → length (after_word s) ≤ length s → length (cond t s (after_word s)) ≤ suc (length s)
    go true h = omega arith
    go false h = omega arith

behind_lt : (s : List ℕ) → 0 < length s → length (after_word s) < length s
unfolding after_word
behind_lt [] h = absurd (omega arith)
behind_lt (b ∷ s) h = go (is_gap b) (behind_le s)
  where
    go : (t : Bool) → length (after_word s) ≤ length s → length (cond t s (after_word s)) < suc (length s)
    go true h = omega arith
    go false h = omega arith

-- passing a text's first word leaves what is behind it
passed : (s : List ℕ) → drop (span s) s ≡ after_word s
unfolding after_word
passed [] = refl
passed (b ∷ s) = go (is_gap b) (behind_le s) (passed s)
  where
    go : (t : Bool) → length (after_word s) ≤ length s → drop (span s) s ≡ after_word s
        → drop (suc (length s) - length (cond t s (after_word s))) (b ∷ s) ≡ cond t s (after_word s)
    go true h e = let n : suc (length s) - length s ≡ 1 = omega arith in rw n refl
    go false h e = let n : suc (length s) - length (after_word s) ≡ suc (span s) = omega arith in rw n e

-- a word that is found stands there; and none stands past the end
pub found_some : (s : List ℕ) (at : ℕ) (t : Token) → Some t ≡ found s at → (t ≡ word_at s at) × (at < length s)
found_some s at t e = go (ltb at (length s)) refl e
  where
    go : (b : Bool) → ltb at (length s) ≡ b → Some t ≡ cond b (Some (word_at s at)) None → (t ≡ word_at s at) × (at < length s)
    go true f g = (cc, ltb-true at (length s) f)
    go false f g = cc

pub found_none : (s : List ℕ) (at : ℕ) → None ≡ found s at → length s ≤ at
found_none s at e = go (ltb at (length s)) refl e
  where
    go : (b : Bool) → ltb at (length s) ≡ b → None ≡ cond b (Some (word_at s at)) None → length s ≤ at
    go true f g = cc
    go false f g = ltb-false at (length s) f

-- past a phrase's end a walker stays
pub stays : (w : Walker) → length w.phrase.now ≤ w.at → record { key = 62; rest = w } ≡ step_of w
unfolding first_word after_word full_key key
stays w h =
    let here : ℕ → Step = λ n. record { key = 62; rest = record { phrase = w.phrase; at = n } } in
    rw (drop_of_length-le w.phrase.now {i = w.at} h) (ap here {x = w.at} (omega arith))

-- a step of a walk goes on, within the phrase, to what is behind the word
module _ (s : List ℕ) (at : ℕ) where
  pub goes_on : drop (at + (word_at s at).next) s ≡ after_word (drop at s)
  goes_on = sym (drop-drop (span (drop at s)) at s) ∙ passed (drop at s)

  pub goes_within : at ≤ length s → at + (word_at s at).next ≤ length s
  goes_within h = omega (arith, length-drop at s)

  pub goes_far : at < length s → 0 < (word_at s at).next
  goes_far h = let l = length-drop at s in let m = behind_lt (drop at s) (omega arith) in omega arith
