-- Laws of taking a group: of words with known meanings.
-- Assumes nothing.
use Prim.Native.Nat.{ℕ, zero, suc, ◌+◌, ◌-◌, ◌*◌, ◌/◌, ◌%◌, ◌<◌}
use mathlib.Core.Path.{◌≡◌, refl, sym, ◌∙◌, ap}
use mathlib.Core.List.{List, [], ◌∷◌, ◌++◌, append_assoc}
use native.Mathlib.Nat.{mod-eq_of_lt}
use native.Mathlib.Omega.{arith}
use borrow.Author.Tests.{eq-eqb, ne_eqb, lt-ltb, le-ltb}
use Rattle.base.specs.Join.{Word}
use Rattle.settings.specs.Settings.{Settings}
use Rattle.uk.specs.Rules.{DigitWords, opt, low_words, num_words}
use Rattle.uk.specs.Ukrainian.{at_order, ukrainian_digits, scale_noun, noun_words, ukrainian_group, ukrainian}
use Rattle.uk_read.specs.Reading.{mean, Taken, taken}
use Rattle.uk_read.proofs.Known.{Counting, Lawful}

abbrev pub closed : ℕ → ℕ → List Word → Taken
closed v k ws = record { value = v; order = k; rest = ws }

-- a number word adds; a scale noun closes; a word that is neither stops
pub adds : (a v : ℕ) (w : Word) (ws : List Word) → mean w ≡ v → 0 < v → v < 1000 → a + v < 1000 → taken a (w ∷ ws) ≡ taken (a + v) ws
unfolding taken
adds a v w ws e p l h =
    rw (e, ne_eqb v 0 (λ z. omega arith), le-ltb 999 v (omega arith), mod-eq_of_lt h) refl

pub closes : (a k : ℕ) (w : Word) (ws : List Word) → mean w ≡ 1000 + k → taken a (w ∷ ws) ≡ closed a k ws
unfolding taken
closes a k w ws e =
    let m : 1000 + k - 1000 ≡ k = omega arith in
    rw (e, ne_eqb (1000 + k) 0 (λ z. omega arith), lt-ltb 999 (1000 + k) (omega arith), m) refl

-- what may follow a number: nothing, or a word that is no number word
abbrev pub Stops : List Word → Type 0
Stops [] = Unit {0}
Stops (w ∷ ws) = mean w ≡ 0

pub stops : (a : ℕ) (ws : List Word) → Stops ws → taken a ws ≡ closed a 0 ws
unfolding taken
stops a [] s = refl
stops a (w ∷ ws) s = rw (eq-eqb (mean w) 0 s) refl

module _ (W : DigitWords) (D : Counting W) where
  opt_hundred : (a h : ℕ) (ws : List Word) → h < 10 → a + 100 * h < 1000 → taken a (opt W.hundred h ++ ws) ≡ taken (a + 100 * h) ws
  opt_hundred a zero ws b l = let e : a + 100 * 0 ≡ a = omega arith in ap (λ (x : ℕ). taken x ws) (sym e)
  opt_hundred a (suc h) ws b l = adds a (100 * suc h) (W.hundred (suc h)) ws (D.hundred (suc h) (omega arith) b).means (omega arith) (omega arith) l

  opt_unit : (a u : ℕ) (ws : List Word) → u < 10 → a + u < 1000 → taken a (opt W.unit u ++ ws) ≡ taken (a + u) ws
  opt_unit a zero ws b l = let e : a + 0 ≡ a = omega arith in ap (λ (x : ℕ). taken x ws) (sym e)
  opt_unit a (suc u) ws b l = adds a (suc u) (W.unit (suc u)) ws (D.unit (suc u) (omega arith) b).means (omega arith) (omega arith) l

  low : (a t u : ℕ) (ws : List Word) → t < 10 → u < 10 → a + 10 * t + u < 1000 → taken a (low_words W t u ++ ws) ≡ taken (a + 10 * t + u) ws
  low a zero u ws b c l = let e : a + u ≡ a + 10 * 0 + u = omega arith in opt_unit a u ws c (omega arith) ∙ ap (λ (x : ℕ). taken x ws) e
  low a (suc zero) u ws b c l =
      let e : a + (10 + u) ≡ a + 10 * 1 + u = omega arith in
      adds a (10 + u) (W.teen (10 + u)) ws (D.teen (10 + u) (omega arith) (omega arith)).means (omega arith) (omega arith) (omega arith) ∙ ap (λ (x : ℕ). taken x ws) e
  low a (suc (suc t)) u ws b c l =
      adds a (10 * suc (suc t)) (W.ten (suc (suc t))) (opt W.unit u ++ ws) (D.ten (suc (suc t)) (omega arith) b).means (omega arith) (omega arith) (omega arith)
      ∙ opt_unit (a + 10 * suc (suc t)) u ws c l

  num : (h t u : ℕ) (ws : List Word) → h < 10 → t < 10 → u < 10 → taken 0 (num_words W h t u ++ ws) ≡ taken (100 * h + 10 * t + u) ws
  num h t u ws a b c =
      let e : 0 + 100 * h ≡ 100 * h = omega arith in
      ap (taken 0) (append_assoc (opt W.hundred h) (low_words W t u) ws) ∙ opt_hundred 0 h (low_words W t u ++ ws) a (omega arith)
      ∙ ap (λ (x : ℕ). taken x (low_words W t u ++ ws)) e ∙ low (100 * h) t u ws b c (omega arith)

  -- the digits of a group
  digits : (g : ℕ) (ws : List Word) → g < 1000 → taken 0 (num_words W (g / 100 % 10) (g / 10 % 10) (g % 10) ++ ws) ≡ taken g ws
  digits g ws l =
      let e : 100 * (g / 100 % 10) + 10 * (g / 10 % 10) + g % 10 ≡ g = omega arith in
      num (g / 100 % 10) (g / 10 % 10) (g % 10) ws (omega arith) (omega arith) (omega arith) ∙ ap (λ (x : ℕ). taken x ws) e

module _ (S : Settings) (L : Lawful S) where
  noun_closes : (k t u g : ℕ) (ws : List Word) → k < 22 → (k ≡ 0 → Stops ws) → taken g (noun_words S k t u ++ ws) ≡ closed g k ws
  noun_closes zero t u g ws i s = stops g ws (s refl)
  noun_closes (suc k) t u g ws i s = closes g (suc k) (scale_noun S (suc k) t u) ws (L.noun (suc k) t u (omega arith) i).means

  -- a group, and at order 0 what may follow a number
  pub group_taken : (k g : ℕ) (ws : List Word) → k < 22 → g < 1000 → (k ≡ 0 → Stops ws) → taken 0 ((ukrainian S).group_words k g ++ ws) ≡ closed g k ws
  unfolding ukrainian ukrainian_group
  group_taken k g ws i l s =
      let D = ukrainian_digits (at_order k S) in
      let t = g / 10 % 10 in
      let u = g % 10 in
      ap (taken 0) (append_assoc (num_words D (g / 100 % 10) t u) (noun_words S k t u) ws)
      ∙ digits D (L.digits k) g (noun_words S k t u ++ ws) l ∙ noun_closes k t u g ws i s
