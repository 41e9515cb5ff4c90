-- A reformed phrase is one word: no word has a space, and hyphens join them.
-- Assumes nothing.
use Prim.Native.Nat.{ℕ, zero, suc, ◌-◌, ◌/◌, ◌%◌, ◌^◌, ◌≤◌, ◌<◌}
use mathlib.Core.Path.{◌≡◌, refl}
use mathlib.Core.Bool.{Bool, true, false, cond, not, ◌&&◌, ◌||◌}
use mathlib.Core.List.{List, [], ◌∷◌, ◌++◌}
use native.Mathlib.Omega.{arith}
use native.Mathlib.Decide.{ℕ_discrete}
use lib.Dec.{eqb}
use Rattle.base.specs.Signs.{space, letter_e}
use Rattle.base.specs.Utf8.{utf8, form1}
use Rattle.base.specs.Measure.{spaces}
use Rattle.base.proofs.Unspaced.{Unspaced, AllUnspaced, unspaced_append, all_append, unspaced_at1}
use Rattle.base.proofs.Words.{either}
use Rattle.settings.specs.Settings.{Settings}
use Rattle.cardinals.specs.Cardinal.{cardinal_phrase}
use Rattle.cardinals.proofs.Unspaced.{UnspacedWords, cardinal_unspaced}
use Rattle.fr.specs.FrTables.{units, tens, teens, megas}
use Rattle.fr.specs.Rules.{in_fr, in_ch, is_reformed, is_mille, cent_word, hundred_words, counts_on, ten_word, four_twenties, round_word, takes_et, link, is_une, unit_word, pair_word, tens_words, number_words, mega_name, scale_word, scale_words, french_group, without_e, nth, french}
use Rattle.fr.specs.Ordinal.{nth_of, nth_phrase}
use Rattle.fr.proofs.Ordinals.{nth_phrase_lem}

-- the texts of the tables
unit_unspaced : (i : ℕ) → Unspaced (form1 units i)
unfolding spaces units
unit_unspaced = unspaced_at1 units refl

ten_unspaced : (i : ℕ) → Unspaced (form1 tens i)
unfolding spaces tens
ten_unspaced = unspaced_at1 tens refl

teen_unspaced : (i : ℕ) → Unspaced (form1 teens i)
unfolding spaces teens
teen_unspaced = unspaced_at1 teens refl

mega_unspaced : (i : ℕ) → Unspaced (form1 megas i)
unfolding spaces megas
mega_unspaced = unspaced_at1 megas refl

module _ (S : Settings) (reformed : is_reformed S ≡ true) where
  -- words of digits
  ten_word_lem : (t : ℕ) → Unspaced (ten_word S t)
  unfolding ten_word spaces
  ten_word_lem t =
      either Unspaced (eqb t 7 && not (in_fr S)) (λ e. refl)
      (λ e. either Unspaced (eqb t 8 && in_ch S) (λ e. refl) (λ e. either Unspaced (eqb t 9 && not (in_fr S)) (λ e. refl) (λ e. ten_unspaced (t - 1))))

  round_word_lem : (k t : ℕ) → Unspaced (round_word S k t)
  unfolding round_word spaces
  round_word_lem k t = either Unspaced (four_twenties S t && not (is_mille k)) (λ e. refl) (λ e. ten_word_lem t)

  unit_word_lem : (k u : ℕ) → Unspaced (unit_word S k u)
  unfolding unit_word spaces
  unit_word_lem k u = either Unspaced (is_une S k u) (λ e. refl) (λ e. unit_unspaced (u - 1))

  link_unspaced : (t u : ℕ) → Unspaced (link S t u)
  unfolding link spaces
  link_unspaced t u = rw reformed (either Unspaced (takes_et S t u) (λ e. refl) (λ e. refl))

  pair_word_lem : (k t u : ℕ) → Unspaced (pair_word S k t u)
  unfolding pair_word
  pair_word_lem k t u =
      either Unspaced (counts_on S t)
      (λ e. unspaced_append (ten_word S (t - 1)) (link S t u ++ form1 teens u) (ten_word_lem (t - 1)) (unspaced_append (link S t u) (form1 teens u) (link_unspaced t u) (teen_unspaced u)))
      (λ e. unspaced_append (ten_word S t) (link S t u ++ unit_word S k u) (ten_word_lem t) (unspaced_append (link S t u) (unit_word S k u) (link_unspaced t u) (unit_word_lem k u)))

  hundred_words_lem : (k h below : ℕ) → AllUnspaced (hundred_words k h below)
  unfolding hundred_words cent_word spaces
  hundred_words_lem k zero below = tt
  hundred_words_lem k (suc zero) below = (refl, tt)
  hundred_words_lem k (suc (suc h)) below = (unit_unspaced (suc h), (either Unspaced (eqb below 0 && not (is_mille k)) (λ e. refl) (λ e. refl), tt))

  tens_words_lem : (k t u : ℕ) → AllUnspaced (tens_words S k t u)
  unfolding tens_words
  tens_words_lem k zero zero = tt
  tens_words_lem k zero (suc u) = (unit_word_lem k (suc u), tt)
  tens_words_lem k (suc zero) u = (teen_unspaced u, tt)
  tens_words_lem k (suc (suc t)) zero = (round_word_lem k (suc (suc t)), tt)
  tens_words_lem k (suc (suc t)) (suc u) = (pair_word_lem k (suc (suc t)) (suc u), tt)

  number_words_lem : (k g : ℕ) → AllUnspaced (number_words S k g)
  number_words_lem k g =
      all_append (hundred_words k (g / 100 % 10) (g % 100)) (tens_words S k (g / 10 % 10) (g % 10)) (hundred_words_lem k (g / 100 % 10) (g % 100)) (tens_words_lem k (g / 10 % 10) (g % 10))

  -- scale words
  scale_words_lem : (k g : ℕ) → AllUnspaced (scale_words k g)
  unfolding scale_words scale_word mega_name spaces
  scale_words_lem zero g = tt
  scale_words_lem (suc k) g =
      (unspaced_append (form1 megas (suc k - 1)) (cond (is_mille (suc k) || eqb g 1) [] (utf8 "s")) (mega_unspaced (suc k - 1)) (either Unspaced (is_mille (suc k) || eqb g 1) (λ e. refl) (λ e. refl)), tt)

  -- what French has for its cardinals
  french_unspaced : UnspacedWords (french S)
  unfolding french french_group spaces
  french_unspaced = record {
    joiner = rw reformed (λ e. omega arith);
    zeroth = refl;
    minus = refl;
    groups = λ k g. all_append (cond (is_mille k && eqb g 1) [] (number_words S k g)) (scale_words k g) (either AllUnspaced (is_mille k && eqb g 1) (λ e. tt) (λ e. number_words_lem k g)) (scale_words_lem k g);
  }

  pub reformed_cardinal : (minus : Bool) (n : ℕ) → Unspaced (cardinal_phrase (french S) minus n)
  reformed_cardinal minus n = cardinal_unspaced french_unspaced minus n

-- a text without its final `e` has no more spaces
fewer : (w : List ℕ) → spaces (without_e w) ≤ spaces w
unfolding spaces without_e
fewer [] = omega arith
fewer (b ∷ []) = go (eqb b letter_e)
  where
    go : (t : Bool) → spaces (cond t [] (b ∷ [])) ≤ spaces (b ∷ [])
    go true = omega arith
    go false = omega arith
fewer (b ∷ c ∷ s) = go (eqb b space) (fewer (c ∷ s))
  where
    go : (t : Bool) → spaces (without_e (c ∷ s)) ≤ spaces (c ∷ s) → cond t (suc (spaces (without_e (c ∷ s)))) (spaces (without_e (c ∷ s))) ≤ cond t (suc (spaces (c ∷ s))) (spaces (c ∷ s))
    go true h = omega arith
    go false h = h

nth_unspaced : (w : List ℕ) → Unspaced w → Unspaced (nth w)
unfolding nth spaces
nth_unspaced w p = unspaced_append (without_e w) (utf8 "ième") (omega (arith, fewer w)) refl

pub reformed_ordinal : (S : Settings) → is_reformed S ≡ true → (n : ℕ) → n < 1000 ^ 34 → Unspaced (nth_phrase S n)
unfolding nth_phrase nth_of spaces
reformed_ordinal S r n h = go (ℕ_discrete n 1)
  where
    go : Dec (n ≡ 1) → Unspaced (nth_phrase S n)
    go (yes e) = rw e refl
    go (no d) = rw (nth_phrase_lem S n h d) (nth_unspaced (cardinal_phrase (french S) false n) (reformed_cardinal S r false n))
