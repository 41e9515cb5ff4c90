-- The words behind nouns, place by place in a text.
-- Assumes nothing.
use Prim.Native.Nat.{ℕ, ◌+◌, ◌≤◌}
use mathlib.Core.Path.{◌≡◌, refl, sym, ◌∙◌}
use mathlib.Core.List.{List}
use borrow.Author.Tests.{eq-eqb, ne_eqb}
use lib.ListN.{length, drop, drop_of_length-le}
use Rattle.tokens.specs.Tokens.{first_word, split}
use Rattle.uk_read.specs.Reading.{mean}
use Rattle.uk_read.proofs.Texts.{Looked}
use Rattle.uk_money_read.specs.Behind.{behind}

-- a word that is a number word, and one that is none
module _ {s : List ℕ} {at next m : ℕ} (k : Looked s at next m) where
  pub stays : (m ≡ 0 → ⊥) → behind (split (drop at s)) ≡ split (drop at s)
  unfolding behind
  stays n = rw (k.words, ne_eqb (mean (first_word (drop at s))) 0 (λ z. n (k.means ∙ z))) refl

  pub passes : m ≡ 0 → behind (split (drop at s)) ≡ behind (split (drop (at + next) s))
  unfolding behind
  passes z = rw (k.words, eq-eqb (mean (first_word (drop at s))) 0 (sym k.means ∙ z)) refl

pub ends : (s : List ℕ) (at : ℕ) → length s ≤ at → split (drop at s) ≡ behind (split (drop at s))
unfolding behind split
ends s at h = rw (drop_of_length-le s {i = at} h) refl
