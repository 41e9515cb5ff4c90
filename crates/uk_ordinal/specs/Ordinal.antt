-- The words of a Ukrainian ordinal (01, "Ukrainian ordinals, years, codes"; `to_ordinal` in uk.rs), in both styles (02, W3).
-- Assumes nothing.
use Rattle.std.specs.Prelude.{ℕ, zero, suc, ◌-◌, ◌*◌, ◌/◌, ◌%◌, ◌^◌, Bool, true, false, cond, not, ◌&&◌, eqb, ltb}
use mathlib.Core.List.{List, [], ◌∷◌, ◌++◌, flatten}
use Rattle.base.specs.Join.{Word}
use Rattle.base.specs.Utf8.{utf8, form1, form2}
use Rattle.settings.specs.Settings.{masculine, singular, nominative, genitive, school_style, in_gender, in_case, Settings}
use Rattle.cardinals.specs.Cardinal.{group_at, groups_below}
use Rattle.uk.specs.UkTables.{teens_bases, mega_bases}
use Rattle.uk.specs.Apostrophes.{with_apostrophe, by_apostrophe1, sign_at}
use Rattle.uk.specs.Rules.{DigitWords, opt, num_words}
use Rattle.uk.specs.Ukrainian.{unit_form, ukrainian_digits, ukrainian_orders, ukrainian}
use Rattle.uk_ordinal.specs.OrdinalTables.{ordinal_zero_base, one_base, ordinal_unit_bases, ordinal_tens_bases, hundred_base, adjective_hard_flexions_singular, adjective_hard_flexions_plural, adjective_soft_flexions_singular, adjective_soft_flexions_plural}

-- "The ending is soft when units is 3 and the number's last two digits aren't 13."
abbrev pub soft : ℕ → Bool
soft n = eqb (n % 10) 3 && not (eqb (n % 100) 13)

-- "Endings come from the `ADJECTIVE` tables by gender and case, in the plural by case alone": soft or not
unfoldable pub flexion : Settings → Bool → Word
flexion S true = cond (eqb S.number singular) (form2 adjective_soft_flexions_singular S.gender S.case) (form1 adjective_soft_flexions_plural S.case)
flexion S false = cond (eqb S.number singular) (form2 adjective_hard_flexions_singular S.gender S.case) (form1 adjective_hard_flexions_plural S.case)

-- the settings of the words before the one that carries the ending, and of those that a compound is made of, where "2 is masculine"
abbrev pub in_nominative : Settings → Settings
in_nominative S = in_gender masculine (in_case nominative S)

abbrev pub in_genitive : Settings → Settings
in_genitive S = in_gender masculine (in_case genitive S)

-- ordinals "as taught in school" are asked for (02, W3)
abbrev pub school : Settings → Bool
school S = eqb S.style school_style

-- the words of digits in a compound: "unit 1 is `ONE_BASE`"; in school "a hundreds digit of 1 is `сто` and a tens digit of 9 is `девʼяносто`" (02, W3)
unfoldable pub compound_digits : Settings → DigitWords
compound_digits S = record {
  hundred = λ h. cond (school S && eqb h 1) (utf8 "сто") ((ukrainian_digits (in_genitive S)).hundred h);
  ten = λ t. cond (school S && eqb t 9) (utf8 (with_apostrophe (sign_at S.apostrophe) "девʼяносто")) ((ukrainian_digits (in_genitive S)).ten t);
  teen = (ukrainian_digits (in_genitive S)).teen;
  unit = λ u. cond (eqb u 1) (utf8 one_base) (unit_form (in_genitive S) u);
}

-- what stands before the scale base of the group g, the number above it being rest: nothing for "A lone group of 1 above order 0",
-- else "its genitive cardinal words"
abbrev pub compound_words : Settings → ℕ → ℕ → List Word
compound_words S rest g = cond (eqb rest 0 && eqb g 1) [] (num_words (compound_digits S) (g / 100 % 10) (g / 10 % 10) (g % 10))

-- a lowest group above order 0, "one word": what counts it "run together", "scale base, `н`, ending"
unfoldable pub compound_word : Settings → Word → ℕ → ℕ → ℕ → Word
compound_word S ending rest order g = flatten (compound_words S rest g ++ (form1 mega_bases (order - 1) ∷ utf8 "н" ∷ ending ∷ []))

-- the tens t and the units u at order 0: "a teen base, or for units 0 a base of `ORDINAL_TENS_BASES`, or else the nominative tens word if any
-- and a base of `ORDINAL_UNIT_BASES`, with the ending on the last"
abbrev pub tail_words : Settings → Word → ℕ → ℕ → List Word
tail_words S ending t u =
    cond (eqb t 1) ((form2 (by_apostrophe1 teens_bases) S.apostrophe u ++ ending) ∷ [])
    (cond (eqb u 0) ((form2 (by_apostrophe1 ordinal_tens_bases) S.apostrophe (t - 1) ++ ending) ∷ [])
    (opt (ukrainian_digits (in_nominative S)).ten t ++ ((form2 (by_apostrophe1 ordinal_unit_bases) S.apostrophe (u - 1) ++ ending) ∷ [])))

-- what stands before `HUNDRED_BASE` in a group of h hundreds at order 0: nothing, but in school of "200 to 900" "the genitive of its hundreds digit" (02, W3)
abbrev pub hundred_count : Settings → ℕ → Word
hundred_count S h = cond (school S && ltb 1 h) (unit_form (in_genitive S) h) []

-- the lowest group g at order 0: "a group ending in 00 writes only `HUNDRED_BASE` and ending" behind its count, if any, "as a single word" (02, W3);
-- "any other writes the nominative hundred word if any", then tens and units
unfoldable pub plain_words : Settings → Word → ℕ → List Word
plain_words S ending g =
    cond (eqb (g % 100) 0) ((hundred_count S (g / 100 % 10) ++ (utf8 hundred_base ++ ending)) ∷ [])
    (opt (ukrainian_digits (in_nominative S)).hundred (g / 100 % 10) ++ tail_words S ending (g / 10 % 10) (g % 10))

-- the lowest nonzero group g at its order, the number above it being rest: it "carries the ending"
unfoldable pub lowest_words : Settings → Word → ℕ → ℕ → ℕ → List Word
lowest_words S ending rest zero g = plain_words S ending g
lowest_words S ending rest (suc order) g = compound_word S ending rest (suc order) g ∷ []

-- the number n without its groups up to an order
abbrev pub above : ℕ → ℕ → ℕ
above order n = n / 1000 ^ suc order * 1000 ^ suc order

-- n, whose lowest nonzero group is at this order: "groups above the lowest nonzero one are nominative cardinals; the lowest carries the ending"
unfoldable pub ordinal_at : Settings → Word → ℕ → ℕ → List Word
ordinal_at S ending order n =
    groups_below (ukrainian (in_nominative S)) ukrainian_orders (above order n) ++ lowest_words S ending (above order n) order (group_at order n)

-- n from an order up, of which so many are left: the first group that is not 0 is the lowest; "Zero is `ORDINAL_ZERO_BASE` and ending"
unfoldable pub ordinal_from : Settings → Word → ℕ → ℕ → ℕ → List Word
ordinal_from S ending zero order n = (utf8 ordinal_zero_base ++ ending) ∷ []
ordinal_from S ending (suc left) order n = cond (eqb (group_at order n) 0) (ordinal_from S ending left (suc order) n) (ordinal_at S ending order n)

-- the words of an ordinal
unfoldable pub ordinal_words : Settings → ℕ → List Word
ordinal_words S n = ordinal_from S (flexion S (soft n)) ukrainian_orders 0 n
