-- French ordinals: a cardinal has words, its last word's ending is its phrase's, and a number's ordinal is the grammar's with its value.
-- Assumes nothing.
use Prim.Native.Nat.{ℕ, zero, suc, ◌/◌, ◌%◌, ◌^◌, ◌<◌}
use mathlib.Core.Path.{◌≡◌, refl, sym, ap, ◌∙◌}
use mathlib.Core.Bool.{Bool, true, false, cond, ◌&&◌}
use mathlib.Core.List.{List, [], ◌∷◌, ◌++◌, append-nil, append_assoc}
use native.Mathlib.Omega.{arith}
use borrow.Author.Tests.{eqb-true, eqb-false, ne_eqb}
use lib.Dec.{eqb, lit<}
use lib.ListN.{length, length-append}
use Rattle.base.specs.Utf8.{utf8}
use Rattle.base.specs.Join.{Word, spaced_by, joined_by}
use Rattle.base.specs.Signs.{space, hyphen}
use Rattle.settings.specs.Settings.{Settings}
use Rattle.cardinals.specs.Cardinal.{cardinal_words, cardinal_phrase}
use Rattle.cardinals.proofs.Numbers.{sentence, spelled}
use Rattle.cardinals.proofs.Words.{GroupsSome, words_some}
use Rattle.fr.specs.Rules.{is_reformed, is_mille, french_joiner, hundred_words, tens_words, number_words, scale_words, french_group, without_e, nth, nth_words, french}
use Rattle.fr.specs.Ordinal.{nth_of, nth_phrase}
use Rattle.fr.specs.Grammar.{NthSentence, first, later, SaysNth}
use Rattle.fr.proofs.Stems.{drop_last}

-- an ending is the last part's
ending_last : (a w : List ℕ) → 0 < length w → nth (a ++ w) ≡ a ++ nth w
unfolding nth
ending_last a w h = ap (λ (l : List ℕ). l ++ utf8 "ième") (drop_last a w h) ∙ append_assoc a (without_e w) (utf8 "ième")

-- a joiner is no `e`
module _ (j : ℕ) (other : j ≡ 101 → ⊥) where
  ending_joined : (w : Word) → nth (j ∷ w) ≡ j ∷ nth w
  unfolding nth without_e
  ending_joined [] = rw (ne_eqb j 101 other) refl
  ending_joined (b ∷ w) = refl

  ending_spaced : (w : Word) (ws : List Word) → spaced_by j (nth_words (w ∷ ws)) ≡ nth (spaced_by j (w ∷ ws))
  unfolding nth_words
  ending_spaced w [] = rw (append-nil w, append-nil (nth w)) (sym (ending_joined w))
  ending_spaced w (v ∷ ws) =
      ap (λ (l : List ℕ). j ∷ (w ++ l)) (ending_spaced v ws) ∙ sym (ending_last (j ∷ w) (spaced_by j (v ∷ ws)) (omega arith))

  pub nth_joined : (ws : List Word) → 0 < length ws → joined_by j (nth_words ws) ≡ nth (joined_by j ws)
  unfolding nth_words
  nth_joined [] h = absurd (omega arith)
  nth_joined (w ∷ []) h = rw (append-nil w, append-nil (nth w)) refl
  nth_joined (w ∷ v ∷ ws) h = ap (λ (l : List ℕ). w ++ l) (ending_spaced v ws) ∙ sym (ending_last w (spaced_by j (v ∷ ws)) (omega arith))

joiner_other : (S : Settings) → french_joiner S ≡ 101 → ⊥
joiner_other S = go (is_reformed S)
  where
    go : (t : Bool) → cond t hyphen space ≡ 101 → ⊥
    go true e = omega arith
    go false e = omega arith

module _ (S : Settings) where
  -- a group above 0 has words, and a cardinal
  pub groups_some : GroupsSome (french S)
  unfolding french french_group scale_words hundred_words tens_words
  groups_some (suc k) g a b = rw (length-append (cond (is_mille (suc k) && eqb g 1) [] (number_words S (suc k) g)) (scale_words (suc k) g)) (omega arith)
  groups_some zero g a b = rw (append-nil (number_words S 0 g)) (go (g / 100 % 10) (g / 10 % 10) (g % 10) refl refl refl)
    where
      go : (h t u : ℕ) → g / 100 % 10 ≡ h → g / 10 % 10 ≡ t → g % 10 ≡ u → 0 < length (hundred_words 0 h (g % 100) ++ tens_words S 0 t u)
      go zero zero zero p q r = absurd (omega (arith, p, q, r))
      go zero zero (suc u) p q r = omega arith
      go zero (suc zero) u p q r = omega arith
      go zero (suc (suc t)) zero p q r = omega arith
      go zero (suc (suc t)) (suc u) p q r = omega arith
      go (suc zero) t u p q r = omega arith
      go (suc (suc h)) t u p q r = omega arith

  pub some_words : (n : ℕ) → n < 1000 ^ 34 → 0 < length (cardinal_words (french S) false n)
  unfolding french
  some_words n h = words_some (french S) groups_some false n h

  -- the phrase of an ordinal other than the first
  pub nth_phrase_lem : (n : ℕ) → n < 1000 ^ 34 → (n ≡ 1 → ⊥) → nth_phrase S n ≡ nth (cardinal_phrase (french S) false n)
  unfolding nth_phrase nth_of cardinal_phrase french
  nth_phrase_lem n h d = rw (ne_eqb n 1 d) (nth_joined (french_joiner S) (joiner_other S) (cardinal_words (french S) false n) (some_words n h))

  -- a number's ordinal has its value, and an ordinal's words are those of its number
  pub says_nth : (n : ℕ) → n < 1000 ^ 34 → SaysNth S (nth_phrase S n) false n
  unfolding nth_phrase nth_of french
  says_nth n h = record { words = nth_of S n; derives = go (eqb n 1) refl; plus = refl; bytes = refl }
    where
      go : (t : Bool) → eqb n 1 ≡ t → NthSentence S (cond t (utf8 "premier" ∷ []) (nth_words (cardinal_words (french S) false n))) n
      go true e = rw (eqb-true n 1 e) first
      go false e = later (sentence (french S) false n h (λ z. refl)) (λ z. absurd (eqb-false n 1 e z))

  spelled_nth : {ws : List Word} {n : ℕ} → NthSentence S ws n → (n < 1000 ^ 34) × (nth_of S n ≡ ws)
  unfolding nth_of french
  spelled_nth first = (lit< tt, refl)
  spelled_nth (later {n = n} w d) = let p = spelled (french S) w in (p.0, rw (ne_eqb n 1 d) (ap nth_words p.1))

  pub said_nth : {s : List ℕ} {minus : Bool} {n : ℕ} → SaysNth S s minus n → (n < 1000 ^ 34) × (nth_phrase S n ≡ s) × (minus ≡ false)
  unfolding nth_phrase
  said_nth w = let p = spelled_nth w.derives in (p.0, ap (joined_by (french_joiner S)) p.1 ∙ sym w.bytes, w.plus)
