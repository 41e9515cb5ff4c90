-- Ordinals, digit ordinals and years under an apostrophe are those with U+02BC, its sign in place of each.
-- Assumes nothing.
use Prim.Native.Nat.{ℕ, zero, suc, ◌-◌, ◌/◌, ◌%◌, ◌<◌}
use mathlib.Core.Path.{◌≡◌, refl}
use mathlib.Core.Bool.{Bool, true, false, ◌&&◌}
use mathlib.Core.List.{List, [], ◌∷◌}
use native.Mathlib.Omega.{arith}
use borrow.Author.Tests.{ne_eqb}
use lib.Dec.{eqb, ltb}
use lib.IntN.{ℤ, nat_abs}
use Rattle.base.specs.Replaced.{apostrophe_lead}
use Rattle.base.specs.Utf8.{utf8}
use Rattle.base.proofs.Replaced.{Turns, Stays, WordsTurn, none, word, chosen, plain1?, plain2?, nothing, followed, other, plain, at1, at2, one, words_append, flat_turns}
use Rattle.settings.specs.Settings.{masculine, singular, in_gender, Settings}
use Rattle.figures.specs.Text.{digits, value}
use Rattle.figures.proofs.Laws.Digits.{digit_high, digits_head, digits_tail}
use Rattle.cardinals.specs.Cardinal.{group_at}
use Rattle.cardinals.proofs.Replaced.{groups_turn}
use Rattle.uk.specs.Apostrophes.{sign_at, sign_bytes}
use Rattle.uk.specs.UkTables.{teens_bases, mega_bases}
use Rattle.uk.specs.Ukrainian.{ukrainian_digits, ukrainian_orders}
use Rattle.uk.proofs.Apostrophes.{in_apostrophe, TurnsAt, WordsTurnAt, text_turns, mega_plain, DigitsTurn, opt_turns, num_turns, turns1, unit_turns, digits_turn, ukrainian_turns}
use Rattle.uk_ordinal.specs.OrdinalTables as words
use Rattle.uk_ordinal.specs.Ordinal.{soft, flexion, in_nominative, in_genitive, school, compound_digits, compound_word, tail_words, hundred_count, plain_words, lowest_words, above, ordinal_at, ordinal_from, ordinal_words}
use Rattle.uk_ordinal.specs.DigitOrdinal.{short_singular, short_flexion, digit_ordinal}
use Rattle.uk_ordinal.specs.Year.{early, era_words, year_noun, year_words}

-- the tables that have no sign
hard_plain : plain2? words.adjective_hard_flexions_singular ≡ true
unfolding words.adjective_hard_flexions_singular
hard_plain = refl

hard_plural_plain : plain1? words.adjective_hard_flexions_plural ≡ true
unfolding words.adjective_hard_flexions_plural
hard_plural_plain = refl

soft_plain : plain2? words.adjective_soft_flexions_singular ≡ true
unfolding words.adjective_soft_flexions_singular
soft_plain = refl

soft_plural_plain : plain1? words.adjective_soft_flexions_plural ≡ true
unfolding words.adjective_soft_flexions_plural
soft_plural_plain = refl

short_hard_plain : plain2? words.ordinal_hard_flexions_singular_short ≡ true
unfolding words.ordinal_hard_flexions_singular_short
short_hard_plain = refl

short_soft_plain : plain2? words.ordinal_soft_flexions_singular_short ≡ true
unfolding words.ordinal_soft_flexions_singular_short
short_soft_plain = refl

short_plural_plain : plain1? words.ordinal_flexions_plural_short ≡ true
unfolding words.ordinal_flexions_plural_short
short_plural_plain = refl

year_plain : plain2? words.year ≡ true
unfolding words.year
year_plain = refl

-- what does not change: digits, and the words of an era
module _ {sign : List ℕ} where
  digits_stay : (t : List ℕ) → digits t ≡ true → Stays sign t
  digits_stay [] e = nothing
  digits_stay (b ∷ t) e = followed (other b (ne_eqb b apostrophe_lead (λ f. omega (arith, digit_high b (digits_head b t e))))) (digits_stay t (digits_tail b t e))

  era_stays : (is_early : Bool) → WordsTurn sign (era_words is_early) (era_words is_early)
  era_stays true = word (plain (utf8 "до") refl) (one (plain (utf8 "н.е.") refl))
  era_stays false = none

module _ (a : ℕ) (h : a < 3) (S : Settings) where
  -- endings
  flexion_turns : (is_soft : Bool) → TurnsAt a S (λ S. flexion S is_soft)
  unfolding flexion
  flexion_turns true =
      chosen (Turns (sign_bytes a)) (eqb S.number singular) (at2 words.adjective_soft_flexions_singular soft_plain S.gender S.case) (at1 words.adjective_soft_flexions_plural soft_plural_plain S.case)
  flexion_turns false =
      chosen (Turns (sign_bytes a)) (eqb S.number singular) (at2 words.adjective_hard_flexions_singular hard_plain S.gender S.case) (at1 words.adjective_hard_flexions_plural hard_plural_plain S.case)

  short_singular_lem : (is_soft : Bool) → TurnsAt a S (λ S. short_singular S is_soft)
  short_singular_lem true = at2 words.ordinal_soft_flexions_singular_short short_soft_plain S.gender S.case
  short_singular_lem false = at2 words.ordinal_hard_flexions_singular_short short_hard_plain S.gender S.case

  -- digit ordinals
  pub digit_ordinal_turns : (t : List ℕ) → digits t ≡ true → TurnsAt a S (λ S. digit_ordinal S t)
  unfolding digit_ordinal short_flexion
  digit_ordinal_turns t e =
      followed (digits_stay t e) (followed (plain (utf8 "-") refl)
      (chosen (Turns (sign_bytes a)) (eqb S.number singular) (short_singular_lem (soft (value t))) (at1 words.ordinal_flexions_plural_short short_plural_plain S.case)))

  -- the words before the one with the ending
  compound_digits_lem : DigitsTurn (sign_bytes a) (compound_digits (in_apostrophe 0 S)) (compound_digits (in_apostrophe a S))
  unfolding compound_digits words.one_base
  compound_digits_lem =
      let D = digits_turn a h (in_genitive S) in
      record {
        hundred = λ d. chosen (Turns (sign_bytes a)) (school S && eqb d 1) (plain (utf8 "сто") refl) (D.hundred d);
        ten = λ d. chosen (Turns (sign_bytes a)) (school S && eqb d 9) (text_turns (sign_at a) "девʼяносто") (D.ten d);
        teen = D.teen;
        unit = λ u. chosen (Turns (sign_bytes a)) (eqb u 1) (plain (utf8 words.one_base) refl) (unit_turns a h (in_genitive S) u);
      }

  nominative_digits : DigitsTurn (sign_bytes a) (ukrainian_digits (in_nominative (in_apostrophe 0 S))) (ukrainian_digits (in_nominative (in_apostrophe a S)))
  nominative_digits = digits_turn a h (in_nominative S)

  -- the count before the base of hundreds
  count_turns : (d : ℕ) → TurnsAt a S (λ S. hundred_count S d)
  count_turns d = chosen (Turns (sign_bytes a)) (school S && ltb 1 d) (unit_turns a h (in_genitive S) d) nothing

  module _ (is_soft : Bool) where
    -- the lowest group, with its ending
    compound_turns : (rest k g : ℕ) → TurnsAt a S (λ S. compound_word S (flexion S is_soft) rest k g)
    unfolding compound_word
    compound_turns rest k g =
        flat_turns (words_append (chosen (WordsTurn (sign_bytes a)) (eqb rest 0 && eqb g 1) none (num_turns compound_digits_lem (g / 100 % 10) (g / 10 % 10) (g % 10)))
        (word (at1 mega_bases mega_plain (k - 1)) (word (plain (utf8 "н") refl) (one (flexion_turns is_soft)))))

    tail_turns : (t u : ℕ) → WordsTurnAt a S (λ S. tail_words S (flexion S is_soft) t u)
    tail_turns t u =
        chosen (WordsTurn (sign_bytes a)) (eqb t 1) (one (followed (turns1 a h teens_bases u) (flexion_turns is_soft)))
        (chosen (WordsTurn (sign_bytes a)) (eqb u 0) (one (followed (turns1 a h words.ordinal_tens_bases (t - 1)) (flexion_turns is_soft)))
        (words_append (opt_turns _ _ nominative_digits.ten t) (one (followed (turns1 a h words.ordinal_unit_bases (u - 1)) (flexion_turns is_soft)))))

    plain_turns : (g : ℕ) → WordsTurnAt a S (λ S. plain_words S (flexion S is_soft) g)
    unfolding plain_words words.hundred_base
    plain_turns g =
        chosen (WordsTurn (sign_bytes a)) (eqb (g % 100) 0) (one (followed (count_turns (g / 100 % 10)) (followed (plain (utf8 words.hundred_base) refl) (flexion_turns is_soft))))
        (words_append (opt_turns _ _ nominative_digits.hundred (g / 100 % 10)) (tail_turns (g / 10 % 10) (g % 10)))

    lowest_turns : (rest k g : ℕ) → WordsTurnAt a S (λ S. lowest_words S (flexion S is_soft) rest k g)
    unfolding lowest_words
    lowest_turns rest zero g = plain_turns g
    lowest_turns rest (suc k) g = one (compound_turns rest (suc k) g)

    at_turns : (k n : ℕ) → WordsTurnAt a S (λ S. ordinal_at S (flexion S is_soft) k n)
    unfolding ordinal_at
    at_turns k n = words_append (groups_turn (ukrainian_turns a h (in_nominative S)) ukrainian_orders (above k n)) (lowest_turns (above k n) k (group_at k n))

    from_turns : (left k n : ℕ) → WordsTurnAt a S (λ S. ordinal_from S (flexion S is_soft) left k n)
    unfolding ordinal_from words.ordinal_zero_base
    from_turns zero k n = one (followed (plain (utf8 words.ordinal_zero_base) refl) (flexion_turns is_soft))
    from_turns (suc left) k n = chosen (WordsTurn (sign_bytes a)) (eqb (group_at k n) 0) (from_turns left (suc k) n) (at_turns k n)

  -- ordinals
  pub ordinal_turns : (n : ℕ) → WordsTurnAt a S (λ S. ordinal_words S n)
  unfolding ordinal_words
  ordinal_turns n = from_turns (soft n) ukrainian_orders 0 n

-- years
pub year_turns : (a : ℕ) → a < 3 → (S : Settings) (y : ℤ) → WordsTurnAt a S (λ S. year_words S y)
unfolding year_words year_noun
year_turns a h S y = words_append (ordinal_turns a h (in_gender masculine S) (nat_abs y)) (word (at2 words.year year_plain S.number S.case) (era_stays (early y)))
