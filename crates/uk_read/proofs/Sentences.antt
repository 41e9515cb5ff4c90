-- A sentence's words are told apart again in its bytes, and what is made of them is its sign and its value.
-- Assumes nothing.
use Prim.Native.Nat.{ℕ, zero, suc, ◌+◌, ◌*◌, ◌/◌, ◌%◌, ◌<◌, ◌≤◌}
use mathlib.Core.Path.{◌≡◌, refl, sym, ◌∙◌, ap}
use mathlib.Core.Bool.{Bool, false}
use mathlib.Core.List.{List, [], ◌∷◌, ◌++◌, append-nil, append_assoc}
use native.Mathlib.Omega.{arith}
use borrow.Author.Tests.{eq-eqb, ne_eqb}
use Rattle.base.specs.Join.{Word}
use Rattle.figures.specs.Groups.{total}
use Rattle.tokens.proofs.Words.{Separable}
use Rattle.settings.specs.Settings.{Settings}
use Rattle.cardinals.specs.Grammar.{Falling, end, skip, group, Sentence, nought, unmarked, marked}
use Rattle.uk.specs.Rules.{DigitWords, opt, low_words, num_words}
use Rattle.uk.specs.Ukrainian.{at_order, ukrainian_digits, scale_noun, noun_words, ukrainian_group, ukrainian}
use Rattle.uk_read.specs.Reading.{mean, taken, sums, signed, after_minus}
use Rattle.uk_read.proofs.Known.{Counting, Lawful}
use Rattle.uk_read.proofs.Taking.{closed, closes}
use Rattle.uk_read.proofs.Falls.{lone, reads_falling}

pub both_separable : (us vs : List Word) → Separable us → Separable vs → Separable (us ++ vs)
both_separable [] vs p q = q
both_separable (u ∷ us) vs p q = (p.0, both_separable us vs p.1 q)

-- the first word is not the minus word
abbrev Unsigned : List Word → Type 0
Unsigned ws = signed ws ≡ false

other : (w : Word) (v : ℕ) (ws : List Word) → mean w ≡ v → (v ≡ 2001 → ⊥) → Unsigned (w ∷ ws)
other w v ws e n = ne_eqb (mean w) 2001 (λ z. n (sym e ∙ z))

abbrev Both : List Word → Type 0
Both ws = Separable ws × Unsigned ws

module _ (W : DigitWords) (D : Counting W) where
  hundred_both : (h : ℕ) (ws : List Word) → h < 10 → Both ws → Both (opt W.hundred h ++ ws)
  hundred_both zero ws a p = p
  hundred_both (suc h) ws a p = let k = D.hundred (suc h) (omega arith) a in ((k.sound, p.0), other (W.hundred (suc h)) (100 * suc h) ws k.means (λ z. omega arith))

  unit_both : (u : ℕ) (ws : List Word) → u < 10 → Both ws → Both (opt W.unit u ++ ws)
  unit_both zero ws a p = p
  unit_both (suc u) ws a p = let q = D.unit (suc u) (omega arith) a in ((q.sound, p.0), other (W.unit (suc u)) (suc u) ws q.means (λ z. omega arith))

  low_both : (t u : ℕ) (ws : List Word) → t < 10 → u < 10 → Both ws → Both (low_words W t u ++ ws)
  low_both zero u ws a b p = unit_both u ws b p
  low_both (suc zero) u ws a b p =
      let q = D.teen (10 + u) (omega arith) (omega arith) in
      ((q.sound, p.0), other (W.teen (10 + u)) (10 + u) ws q.means (λ z. omega arith))
  low_both (suc (suc t)) u ws a b p =
      let q = D.ten (suc (suc t)) (omega arith) a in
      ((q.sound, (unit_both u ws b p).0), other (W.ten (suc (suc t))) (10 * suc (suc t)) (opt W.unit u ++ ws) q.means (λ z. omega arith))

  num_both : (h t u : ℕ) (ws : List Word) → h < 10 → t < 10 → u < 10 → Both ws → Both (num_words W h t u ++ ws)
  num_both h t u ws a b c p = rw (append_assoc (opt W.hundred h) (low_words W t u) ws) (hundred_both h (low_words W t u ++ ws) a (low_both t u ws b c p))

module _ (S : Settings) (L : Lawful S) where
  noun_both : (k t u : ℕ) (ws : List Word) → k < 22 → Both ws → Both (noun_words S k t u ++ ws)
  noun_both zero t u ws a p = p
  noun_both (suc k) t u ws a p =
      let q = L.noun (suc k) t u (omega arith) a in
      ((q.sound, p.0), other (scale_noun S (suc k) t u) (1000 + suc k) ws q.means (λ z. omega arith))

  group_both : (k g : ℕ) (ws : List Word) → k < 22 → Both ws → Both ((ukrainian S).group_words k g ++ ws)
  unfolding ukrainian ukrainian_group
  group_both k g ws i p =
      let D = ukrainian_digits (at_order k S) in
      let t = g / 10 % 10 in
      let u = g % 10 in
      rw (append_assoc (num_words D (g / 100 % 10) t u) (noun_words S k t u) ws)
      (num_both D (L.digits k) (g / 100 % 10) t u (noun_words S k t u ++ ws) (omega arith) (omega arith) (omega arith) (noun_both k t u ws i p))

  falling_both : {k : ℕ} {ws : List Word} {n : ℕ} → Falling (ukrainian S) k ws n → k ≤ 22 → Both ws
  falling_both end i = (tt, refl)
  falling_both (skip f) i = falling_both f (omega arith)
  falling_both (group {k = k} {ws = ws} g a b f) i = group_both k g ws i (falling_both f (omega arith))

  pub separable : {ws : List Word} {minus : Bool} {n : ℕ} → Sentence (ukrainian S) ws minus n → Separable ws
  unfolding ukrainian
  separable nought = (L.zeroth.sound, tt)
  separable (unmarked f p) = (falling_both f (omega arith)).0
  separable (marked f p) = (L.minus.sound, (falling_both f (omega arith)).0)

  -- the value of groups at the end of a text
  value : {ws : List Word} {n : ℕ} → Falling (ukrainian S) 22 ws n → total (sums 22 ws) ≡ n
  value {ws = ws} f = ap (λ (l : List Word). total (sums 22 l)) (sym (append-nil ws)) ∙ (reads_falling S L [] tt f (omega arith)).0

  -- the words without the sign
  past : (ws : List Word) → Unsigned ws → after_minus ws ≡ ws
  past [] e = refl
  past (w ∷ ws) e = rw e refl

  zero_value : (ws : List Word) → Unsigned ws → taken 0 ws ≡ closed 0 0 [] → total (sums 22 (after_minus ws)) ≡ 0
  zero_value ws n e = ap (λ (l : List Word). total (sums 22 l)) (past ws n) ∙ lone ws 0 [] e 21

  pub reads : {ws : List Word} {minus : Bool} {n : ℕ} → Sentence (ukrainian S) ws minus n → (signed ws ≡ minus) × (total (sums 22 (after_minus ws)) ≡ n)
  unfolding ukrainian
  reads nought =
      let n = other (ukrainian S).zero_word 1000 [] L.zeroth.means (λ q. omega arith) in
      (n, zero_value ((ukrainian S).zero_word ∷ []) n (closes 0 0 (ukrainian S).zero_word [] L.zeroth.means))
  reads (unmarked {ws = ws} f p) = let n = (falling_both f (omega arith)).1 in (n, ap (λ (l : List Word). total (sums 22 l)) (past ws n) ∙ value f)
  reads (marked f p) = let e = eq-eqb (mean (ukrainian S).minus_word) 2001 L.minus.means in (e, rw e (value f))
