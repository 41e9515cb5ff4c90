-- No word of an ordinal, a digit ordinal or a year is empty.
-- Assumes nothing.
use Prim.Native.Nat.{ℕ, zero, suc, ◌+◌, ◌-◌, ◌/◌, ◌%◌, ◌≤◌, ◌<◌}
use mathlib.Core.Path.{◌≡◌, refl}
use mathlib.Core.Bool.{Bool, true, false, ◌&&◌}
use mathlib.Core.List.{List, [], ◌∷◌, ◌++◌, flatten}
use native.Mathlib.Omega.{arith}
use borrow.Author.Tests.{eqb-false, ne_eqb, ltb-true}
use lib.Dec.{eqb, ltb}
use lib.IntN.{ℤ, nat_abs}
use lib.ListN.{length}
use Rattle.tables.proofs.Tests.{both_hold}
use Rattle.base.specs.Join.{Word}
use Rattle.base.specs.Signs.{space}
use Rattle.base.specs.Utf8.{utf8, form1, form2}
use Rattle.base.proofs.Words.{tested, Solid, Trails, next_runs, followed, Solids, SomeSolid, one_solid, some_append, flat_solid, either, at1, at2}
use Rattle.settings.specs.Settings.{masculine, singular, ukrainian_ranges, Within, in_gender, Settings}
use Rattle.figures.specs.Text.{digit, digits, value}
use Rattle.figures.proofs.Laws.Digits.{digit_low, digits_head, digits_tail}
use Rattle.cardinals.specs.Cardinal.{group_at, groups_below}
use Rattle.cardinals.proofs.Words.{groups_solid}
use Rattle.uk.specs.UkTables.{mega_bases}
use Rattle.uk.specs.Apostrophes.{with_apostrophe, by_apostrophe1, sign_at}
use Rattle.uk.specs.Rules.{opt}
use Rattle.uk.specs.Ukrainian.{unit_form, ukrainian_digits, ukrainian_orders, ukrainian}
use Rattle.uk.proofs.Words.{teen_solid, mega_solid, SolidDigits, digits_solid, opt_solid, num_solid, ukrainian_solid}
use Rattle.uk_ordinal.specs.OrdinalTables as words
use Rattle.uk_ordinal.specs.Ordinal.{soft, flexion, in_nominative, in_genitive, school, compound_digits, compound_words, compound_word, tail_words, hundred_count, plain_words, lowest_words, above, ordinal_at, ordinal_from, ordinal_words}
use Rattle.uk_ordinal.specs.DigitOrdinal.{short_singular, short_flexion, digit_ordinal}
use Rattle.uk_ordinal.specs.Year.{early, era_words, year_noun, year_words}

-- the texts of the tables
unit_solid : (a i : ℕ) → a < 3 → i < 9 → Solid (form2 (by_apostrophe1 words.ordinal_unit_bases) a i)
unfolding form2 by_apostrophe1 words.ordinal_unit_bases
unit_solid = at2 3 9 (by_apostrophe1 words.ordinal_unit_bases) refl

ten_solid : (a i : ℕ) → a < 3 → i < 9 → Solid (form2 (by_apostrophe1 words.ordinal_tens_bases) a i)
unfolding form2 by_apostrophe1 words.ordinal_tens_bases
ten_solid = at2 3 9 (by_apostrophe1 words.ordinal_tens_bases) refl

hard_ending : (i j : ℕ) → i < 3 → j < 6 → Trails (form2 words.adjective_hard_flexions_singular i j)
unfolding form2 words.adjective_hard_flexions_singular
hard_ending = at2 3 6 words.adjective_hard_flexions_singular refl

hard_plural_ending : (i : ℕ) → i < 6 → Trails (form1 words.adjective_hard_flexions_plural i)
unfolding form1 words.adjective_hard_flexions_plural
hard_plural_ending = at1 6 words.adjective_hard_flexions_plural refl

soft_ending : (i j : ℕ) → i < 3 → j < 6 → Trails (form2 words.adjective_soft_flexions_singular i j)
unfolding form2 words.adjective_soft_flexions_singular
soft_ending = at2 3 6 words.adjective_soft_flexions_singular refl

soft_plural_ending : (i : ℕ) → i < 6 → Trails (form1 words.adjective_soft_flexions_plural i)
unfolding form1 words.adjective_soft_flexions_plural
soft_plural_ending = at1 6 words.adjective_soft_flexions_plural refl

short_hard_ending : (i j : ℕ) → i < 3 → j < 6 → Trails (form2 words.ordinal_hard_flexions_singular_short i j)
unfolding form2 words.ordinal_hard_flexions_singular_short
short_hard_ending = at2 3 6 words.ordinal_hard_flexions_singular_short refl

short_soft_ending : (i j : ℕ) → i < 3 → j < 6 → Trails (form2 words.ordinal_soft_flexions_singular_short i j)
unfolding form2 words.ordinal_soft_flexions_singular_short
short_soft_ending = at2 3 6 words.ordinal_soft_flexions_singular_short refl

short_plural_ending : (i : ℕ) → i < 6 → Trails (form1 words.ordinal_flexions_plural_short i)
unfolding form1 words.ordinal_flexions_plural_short
short_plural_ending = at1 6 words.ordinal_flexions_plural_short refl

year_solid : (i j : ℕ) → i < 2 → j < 6 → Solid (form2 words.year i j)
unfolding form2 words.year
year_solid = at2 2 6 words.year refl

-- the tens digit 9 in a compound of school
ninety_solid : (a : ℕ) → a < 3 → Solid (utf8 (with_apostrophe (sign_at a) "девʼяносто"))
ninety_solid zero h = tested refl
ninety_solid (suc zero) h = tested refl
ninety_solid (suc (suc zero)) h = tested refl
ninety_solid (suc (suc (suc a))) h = absurd (omega arith)

-- digits
not_space : (b : ℕ) → digit b ≡ true → eqb b space ≡ false
not_space b e = ne_eqb b space (λ f. omega (arith, digit_low b e))

digits_ending : (t : List ℕ) → digits t ≡ true → Trails t
digits_ending [] e = tested refl
digits_ending (b ∷ t) e = next_runs refl (rw (not_space b (digits_head b t e)) (digits_ending t (digits_tail b t e)))

text_solid : (t : List ℕ) → digits t ≡ true → 0 < length t → Solid t
text_solid [] e h = absurd (omega arith)
text_solid (b ∷ t) e h = let f = not_space b (digits_head b t e) in next_runs (rw f refl) (rw f (digits_ending t (digits_tail b t e)))

module _ (S : Settings) (w : Within (ukrainian_ranges S)) where
  -- endings
  flexion_ending : (is_soft : Bool) → Trails (flexion S is_soft)
  unfolding flexion
  flexion_ending true = either Trails (eqb S.number singular) (λ e. soft_ending S.gender S.case w.0 w.1.1.0) (λ e. soft_plural_ending S.case w.1.1.0)
  flexion_ending false = either Trails (eqb S.number singular) (λ e. hard_ending S.gender S.case w.0 w.1.1.0) (λ e. hard_plural_ending S.case w.1.1.0)

  short_singular_lem : (is_soft : Bool) → Trails (short_singular S is_soft)
  short_singular_lem true = short_soft_ending S.gender S.case w.0 w.1.1.0
  short_singular_lem false = short_hard_ending S.gender S.case w.0 w.1.1.0

  short_ending : (is_soft : Bool) → Trails (short_flexion S is_soft)
  unfolding short_flexion
  short_ending is_soft = either Trails (eqb S.number singular) (λ e. short_singular_lem is_soft) (λ e. short_plural_ending S.case w.1.1.0)

  -- digit ordinals
  pub digit_ordinal_solid : (t : List ℕ) → digits t ≡ true → 0 < length t → Solid (digit_ordinal S t)
  unfolding digit_ordinal
  digit_ordinal_solid t e h = followed (text_solid t e h) (followed {a = utf8 "-"} (tested refl) (short_ending (soft (value t))))

  -- the words before the one with the ending
  nominative : Within (ukrainian_ranges (in_nominative S))
  nominative = (omega arith, (w.1.0, (omega arith, w.1.1.1)))

  genitive : Within (ukrainian_ranges (in_genitive S))
  genitive = (omega arith, (w.1.0, (omega arith, w.1.1.1)))

  compound_digits_lem : SolidDigits (compound_digits S)
  unfolding compound_digits ukrainian_digits words.one_base
  compound_digits_lem =
      let d = digits_solid (in_genitive S) genitive in
      record {
        hundred = λ h a b. either Solid (school S && eqb h 1) (λ e. tested refl) (λ e. d.hundred h a b);
        ten = λ t a b. either Solid (school S && eqb t 9) (λ e. ninety_solid S.apostrophe w.1.1.1.0) (λ e. d.ten t a b);
        teen = d.teen;
        unit = λ u a b. either Solid (eqb u 1) (λ e. tested refl) (λ e. d.unit u a b);
      }

  -- the lowest group, with its ending
  module _ (ending : Word) (p : Trails ending) where
    compound_solid : (rest k g : ℕ) → 0 < k → k < 22 → Solid (compound_word S ending rest k g)
    unfolding compound_word flatten
    compound_solid rest k g a b =
        flat_solid (compound_words S rest g) (form1 mega_bases (k - 1) ∷ utf8 "н" ∷ ending ∷ [])
        (either Solids (eqb rest 0 && eqb g 1) (λ e. tt) (λ e. num_solid compound_digits_lem g)) (followed (mega_solid (k - 1) (omega arith)) (followed {a = utf8 "н"} (tested refl) (followed {b = []} p (tested refl))))

    tail_solid : (t u : ℕ) → t < 10 → u < 10 → (t ≡ 0 → u ≡ 0 → ⊥) → SomeSolid (tail_words S ending t u)
    tail_solid t u a b n =
        either SomeSolid (eqb t 1) (λ e. one_solid (followed (teen_solid S.apostrophe u w.1.1.1.0 b) p))
        (λ e. either SomeSolid (eqb u 0)
        (λ f. one_solid (followed (ten_solid S.apostrophe (t - 1) w.1.1.1.0 (omega arith)) p))
        (λ f. some_append (opt (ukrainian_digits (in_nominative S)).ten t) ((form2 (by_apostrophe1 words.ordinal_unit_bases) S.apostrophe (u - 1) ++ ending) ∷ [])
        (opt_solid (ukrainian_digits (in_nominative S)).ten t (λ h. (digits_solid (in_nominative S) nominative).ten t (omega (arith, eqb-false t 1 e)) a))
        (one_solid (followed (unit_solid S.apostrophe (u - 1) w.1.1.1.0 (omega arith)) p))))

    round_solid : (h : ℕ) → h < 10 → Solid (hundred_count S h ++ (utf8 words.hundred_base ++ ending))
    unfolding words.hundred_base ukrainian_digits
    round_solid h b =
        either (λ count. Solid (count ++ (utf8 words.hundred_base ++ ending))) (school S && ltb 1 h)
        (λ e. followed ((digits_solid (in_genitive S) genitive).unit h (omega (arith, ltb-true 1 h (both_hold (school S) (ltb 1 h) e).1)) b) (followed {a = utf8 words.hundred_base} (tested refl) p))
        (λ e. followed {a = utf8 words.hundred_base} (tested refl) p)

    plain_solid : (g : ℕ) → SomeSolid (plain_words S ending g)
    unfolding plain_words
    plain_solid g =
        either SomeSolid (eqb (g % 100) 0) (λ e. one_solid (round_solid (g / 100 % 10) (omega arith)))
        (λ e. some_append (opt (ukrainian_digits (in_nominative S)).hundred (g / 100 % 10)) (tail_words S ending (g / 10 % 10) (g % 10))
        (opt_solid (ukrainian_digits (in_nominative S)).hundred (g / 100 % 10) (λ h. (digits_solid (in_nominative S) nominative).hundred (g / 100 % 10) h (omega arith)))
        (tail_solid (g / 10 % 10) (g % 10) (omega arith) (omega arith) (λ x y. eqb-false (g % 100) 0 e (omega arith))))

    lowest_solid : (rest k g : ℕ) → k < 22 → SomeSolid (lowest_words S ending rest k g)
    unfolding lowest_words
    lowest_solid rest zero g h = plain_solid g
    lowest_solid rest (suc k) g h = one_solid (compound_solid rest (suc k) g (omega arith) h)

    at_solid : (k n : ℕ) → k < 22 → SomeSolid (ordinal_at S ending k n)
    unfolding ordinal_at ukrainian
    at_solid k n h =
        some_append (groups_below (ukrainian (in_nominative S)) ukrainian_orders (above k n)) (lowest_words S ending (above k n) k (group_at k n))
        (groups_solid (ukrainian_solid (in_nominative S) nominative) ukrainian_orders (above k n) (omega arith)) (lowest_solid (above k n) k (group_at k n) h)

    from_solid : (left k n : ℕ) → left + k ≤ 22 → SomeSolid (ordinal_from S ending left k n)
    unfolding ordinal_from words.ordinal_zero_base
    from_solid zero k n h = one_solid (followed {a = utf8 words.ordinal_zero_base} (tested refl) p)
    from_solid (suc left) k n h = either SomeSolid (eqb (group_at k n) 0) (λ e. from_solid left (suc k) n (omega arith)) (λ e. at_solid k n (omega arith))

  -- ordinals
  pub ordinal_solid : (n : ℕ) → SomeSolid (ordinal_words S n)
  unfolding ordinal_words
  ordinal_solid n = from_solid (flexion S (soft n)) (flexion_ending (soft n)) ukrainian_orders 0 n (omega arith)

-- years
era_solid : (is_early : Bool) → Solids (era_words is_early)
era_solid true = (tested refl, (tested refl, tt))
era_solid false = tt

pub year_words_solid : (S : Settings) → Within (ukrainian_ranges S) → (y : ℤ) → SomeSolid (year_words S y)
unfolding year_words year_noun
year_words_solid S w y =
    some_append (ordinal_words (in_gender masculine S) (nat_abs y)) (year_noun S ∷ era_words (early y)) (ordinal_solid (in_gender masculine S) (omega arith, w.1) (nat_abs y)).1
    (omega arith, (year_solid S.number S.case w.1.0 w.1.1.0, era_solid (early y)))
