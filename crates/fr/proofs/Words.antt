-- No French number word is empty: one computed test for each table, and so for the words of groups and for ordinals.
-- Assumes nothing.
use Prim.Native.Nat.{ℕ, zero, suc, ◌-◌, ◌/◌, ◌%◌, ◌^◌, ◌<◌}
use mathlib.Core.Path.{◌≡◌, refl}
use mathlib.Core.Bool.{Bool, true, false, cond, not, ◌&&◌, ◌||◌}
use mathlib.Core.List.{[], ◌∷◌, ◌++◌}
use native.Mathlib.Omega.{arith}
use native.Mathlib.Decide.{ℕ_discrete}
use lib.Dec.{eqb}
use Rattle.base.specs.Join.{Word}
use Rattle.base.specs.Signs.{letter_e, space}
use Rattle.base.specs.Utf8.{utf8, form1}
use Rattle.base.proofs.Words.{Runs, tested, Solid, Trails, first_runs, next_runs, ends, followed, either, Solids, solids_append, at1}
use Rattle.settings.specs.Settings.{Settings}
use Rattle.cardinals.specs.Cardinal.{cardinal_phrase}
use Rattle.cardinals.proofs.Words.{SolidWords, cardinal_solid}
use Rattle.fr.specs.FrTables.{units, tens, teens, megas}
use Rattle.fr.specs.Rules.{in_fr, in_ch, is_reformed, is_mille, cent_word, hundred_words, counts_on, ten_word, four_twenties, round_word, takes_et, link, is_une, unit_word, pair_word, tens_words, number_words, mega_name, scale_word, scale_words, french_group, without_e, nth, french}
use Rattle.fr.specs.Ordinal.{nth_of, nth_phrase}
use Rattle.fr.proofs.Ordinals.{groups_some, nth_phrase_lem}

-- the texts of the tables
unit_solid : (i : ℕ) → i < 9 → Solid (form1 units i)
unfolding form1 units
unit_solid = at1 9 units refl

ten_solid : (i : ℕ) → i < 9 → Solid (form1 tens i)
unfolding form1 tens
ten_solid = at1 9 tens refl

teen_solid : (i : ℕ) → i < 10 → Solid (form1 teens i)
unfolding form1 teens
teen_solid = at1 10 teens refl

mega_solid : (i : ℕ) → i < 33 → Solid (form1 megas i)
unfolding form1 megas
mega_solid = at1 33 megas refl

module _ (S : Settings) where
  -- words of digits
  ten_word_lem : (t : ℕ) → 0 < t → t < 10 → Solid (ten_word S t)
  unfolding ten_word
  ten_word_lem t a b =
      either Solid (eqb t 7 && not (in_fr S)) (λ e. tested refl)
      (λ e. either Solid (eqb t 8 && in_ch S) (λ e. tested refl)
      (λ e. either Solid (eqb t 9 && not (in_fr S)) (λ e. tested refl) (λ e. ten_solid (t - 1) (omega arith))))

  round_word_lem : (k t : ℕ) → 0 < t → t < 10 → Solid (round_word S k t)
  unfolding round_word
  round_word_lem k t a b = either Solid (four_twenties S t && not (is_mille k)) (λ e. tested refl) (λ e. ten_word_lem t a b)

  unit_word_lem : (k u : ℕ) → 0 < u → u < 10 → Solid (unit_word S k u)
  unfolding unit_word
  unit_word_lem k u a b = either Solid (is_une S k u) (λ e. tested refl) (λ e. unit_solid (u - 1) (omega arith))

  -- what stands between two words has words on both sides
  linked : (t u : ℕ) {w : Word} → Solid w → Trails (link S t u ++ w)
  unfolding link
  linked t u {w} p = go (takes_et S t u) (is_reformed S)
    where
      go : (e r : Bool) → Trails (cond e (cond r (utf8 "-et-") (utf8 " et ")) (utf8 "-") ++ w)
      go true true = tested (ends p).test
      go true false = tested p.test
      go false r = tested (ends p).test

  pair_word_lem : (k t u : ℕ) → 1 < t → t < 10 → 0 < u → u < 10 → Solid (pair_word S k t u)
  unfolding pair_word
  pair_word_lem k t u a b c d =
      either Solid (counts_on S t)
      (λ e. followed (ten_word_lem (t - 1) (omega arith) (omega arith)) (linked t u (teen_solid u d)))
      (λ e. followed (ten_word_lem t (omega arith) b) (linked t u (unit_word_lem k u c d)))

  hundred_words_lem : (k h below : ℕ) → h < 10 → Solids (hundred_words k h below)
  unfolding hundred_words cent_word
  hundred_words_lem k zero below a = tt
  hundred_words_lem k (suc zero) below a = (tested refl, tt)
  hundred_words_lem k (suc (suc h)) below a =
      (unit_solid (suc h) (omega arith), (either Solid (eqb below 0 && not (is_mille k)) (λ e. tested refl) (λ e. tested refl), tt))

  tens_words_lem : (k t u : ℕ) → t < 10 → u < 10 → Solids (tens_words S k t u)
  unfolding tens_words
  tens_words_lem k zero zero a b = tt
  tens_words_lem k zero (suc u) a b = (unit_word_lem k (suc u) (omega arith) b, tt)
  tens_words_lem k (suc zero) u a b = (teen_solid u b, tt)
  tens_words_lem k (suc (suc t)) zero a b = (round_word_lem k (suc (suc t)) (omega arith) a, tt)
  tens_words_lem k (suc (suc t)) (suc u) a b = (pair_word_lem k (suc (suc t)) (suc u) (omega arith) a (omega arith) b, tt)

  number_words_lem : (k g : ℕ) → Solids (number_words S k g)
  number_words_lem k g =
      solids_append (hundred_words k (g / 100 % 10) (g % 100)) (tens_words S k (g / 10 % 10) (g % 10))
      (hundred_words_lem k (g / 100 % 10) (g % 100) (omega arith)) (tens_words_lem k (g / 10 % 10) (g % 10) (omega arith) (omega arith))

  -- scale words
  scale_words_lem : (k g : ℕ) → k < 34 → Solids (scale_words k g)
  unfolding scale_words scale_word mega_name
  scale_words_lem zero g h = tt
  scale_words_lem (suc k) g h =
      (followed (mega_solid (suc k - 1) (omega arith)) (either Trails (is_mille (suc k) || eqb g 1) (λ e. tested refl) (λ e. tested refl)), tt)

  -- what French has for its cardinals
  french_solid : SolidWords (french S)
  unfolding french french_group
  french_solid = record {
    zeroth = tested refl;
    minus = tested refl;
    some = groups_some S;
    groups = λ k g h a b. solids_append (cond (is_mille k && eqb g 1) [] (number_words S k g)) (scale_words k g)
        (either Solids (is_mille k && eqb g 1) (λ e. tt) (λ e. number_words_lem k g)) (scale_words_lem k g h);
  }

  pub french_cardinal : (minus : Bool) (n : ℕ) → n < 1000 ^ 34 → Solid (cardinal_phrase (french S) minus n)
  unfolding french
  french_cardinal minus n h = cardinal_solid french_solid minus n h

-- an ordinal's ending, which stands behind a word, or in the place of its final `e`
ending_runs : (begun : Bool) → Runs begun (utf8 "ième")
ending_runs true = tested refl
ending_runs false = tested refl

nth_runs : {begun : Bool} {w : Word} → Runs begun w → Runs begun (nth w)
unfolding nth without_e
nth_runs {begun} {w = []} p = ending_runs begun
nth_runs {begun} {w = b ∷ []} p = go (eqb b letter_e)
  where
    go : (t : Bool) → Runs begun (cond t [] (b ∷ []) ++ utf8 "ième")
    go true = ending_runs begun
    go false = followed p (ending_runs true)
nth_runs {begun = begun} {w = b ∷ c ∷ s} p = let r = first_runs p in next_runs r.0 (nth_runs {begun = not (eqb b space)} {w = c ∷ s} r.1)

-- ordinals
pub nth_solid : (S : Settings) (n : ℕ) → n < 1000 ^ 34 → Solid (nth_phrase S n)
unfolding nth_phrase nth_of french
nth_solid S n h = go (ℕ_discrete n 1)
  where
    go : Dec (n ≡ 1) → Solid (nth_phrase S n)
    go (yes e) = rw e (tested refl)
    go (no d) = rw (nth_phrase_lem S n h d) (nth_runs (french_cardinal S false n h))
