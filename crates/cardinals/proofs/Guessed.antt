-- A guess of the sign and the number of some bytes, compared with the bytes: what a reader promises, in any language. A guess is right if it is the
-- value of the bytes wherever they are a sentence.
-- Assumes nothing.
use Prim.Native.Nat.{ℕ, zero, suc, ◌^◌, ◌<◌}
use mathlib.Core.Path.{◌≡◌, refl, ◌∙◌, subst}
use mathlib.Core.Bool.{Bool, true, false, not, ◌&&◌}
use mathlib.Core.List.{List}
use native.Mathlib.Omega.{arith}
use borrow.Author.Tests.{ne_eqb}
use lib.Dec.{eqb}
use Rattle.std.specs.Prelude.{Some, None}
use Rattle.base.specs.Decides.{Decides}
use Rattle.figures.specs.Groups.{total}
use Rattle.groups.specs.Read.{read_of, ReadOf}
use Rattle.groups.specs.declared.number.Number.{Number}
use Rattle.groups.specs.declared.figure.Figure.{Figure}
use Rattle.cardinals.specs.Lexicon.{Lexicon}
use Rattle.cardinals.specs.Cardinal.{cardinal_words, cardinal_phrase}
use Rattle.cardinals.specs.Grammar.{Says}
use Rattle.cardinals.proofs.Numbers.{says, said}

-- what is promised of a sentence, and of bytes that are none, by any grammar
pub read_found : {N : ℕ} (Says : Bool → ℕ → Type 0) (figure : Figure N) → Says figure.minus (total figure.number.groups) → ReadOf Says (Some figure)
read_found Says figure w = record { reads = λ r e. let h : figure ≡ r = cc in rw (← h) w; refuses = λ e. cc }

pub read_none : {N : ℕ} (Says : Bool → ℕ → Type 0) → ((m : Bool) (n : ℕ) → Says m n → ⊥) → ReadOf {N = N} Says None
read_none Says f = record { reads = λ r e. cc; refuses = λ e. f }

-- zero has no sign
unsigned_zero : (L : Lexicon) (m : Bool) (n : ℕ) → cardinal_phrase L (m && not (eqb n 0)) n ≡ cardinal_phrase L m n
unfolding cardinal_phrase cardinal_words
unsigned_zero L m zero = refl
unsigned_zero L true (suc n) = rw (ne_eqb (suc n) 0 (λ e. omega arith)) refl
unsigned_zero L false (suc n) = refl

no_sign : (m : Bool) (n : ℕ) → n ≡ 0 → (m && not (eqb n 0)) ≡ false
no_sign true n z = rw z refl
no_sign false n z = refl

module _ (L : Lexicon) (s : List ℕ) (m : Bool) (n : ℕ) (small : n < 1000 ^ L.orders) (right : (k : Bool) (l : ℕ) → Says L s k l → (m ≡ k) × (n ≡ l)) where
  -- where the guessed number's phrase is the bytes, they are a sentence with its value, and only there
  stands_says : cardinal_phrase L m n ≡ s → Says L s (m && not (eqb n 0)) n
  stands_says e = subst (λ (t : List ℕ). Says L t (m && not (eqb n 0)) n) (unsigned_zero L m n ∙ e) (says L (m && not (eqb n 0)) n small (no_sign m n))

  fails_says : (cardinal_phrase L m n ≡ s → ⊥) → {k : Bool} {l : ℕ} → Says L s k l → ⊥
  fails_says f {k} {l} w = let p = right k l w in f (rw (p.0, p.1) (said L w).1)

  pub read : {N : ℕ} (b : Bool) (number : Number N) → total number.groups ≡ n → Decides b (cardinal_phrase L m n ≡ s) → ReadOf (Says L s) (read_of b m number)
  read true number g d = read_found (Says L s) (record { minus = m && not (eqb (total number.groups) 0); number = number }) (rw g (stands_says (d.holds refl)))
  read false number g d = read_none (Says L s) (λ k l. fails_says (d.fails refl))
