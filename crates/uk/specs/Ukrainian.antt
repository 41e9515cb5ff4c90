-- The Ukrainian words under settings, whole: stem and ending joined; agreement; and what the language has for its cardinals (01, "Ukrainian
-- cardinals").
-- Assumes nothing.
use Rattle.std.specs.Prelude.{ℕ, zero, suc, ◌-◌, ◌/◌, ◌%◌, Bool, cond, ◌&&◌, ◌||◌, List, [], ◌∷◌, ◌++◌, eqb, ltb}
use Rattle.base.specs.Join.{Word}
use Rattle.base.specs.Signs.{space}
use Rattle.base.specs.Utf8.{utf8, form1, form2, form3}
use Rattle.settings.specs.Settings.{masculine, feminine, singular, plural, nominative, genitive, in_gender, in_form, Settings}
use Rattle.cardinals.specs.Lexicon.{Lexicon}
use Rattle.uk.specs.UkTables.{zeros, gendered, units, teens_bases, teens_flexions, tens, hundreds, thousand_flexions, mega_bases, mega_flexions}
use Rattle.uk.specs.Apostrophes.{by_apostrophe1, by_apostrophe2}
use Rattle.uk.specs.Rules.{DigitWords, num_words}

-- the settings of the units at an order: "the caller's gender at order 0, feminine at order 1, masculine above"
abbrev pub at_order : ℕ → Settings → Settings
at_order zero S = S
at_order (suc zero) S = in_gender feminine S
at_order (suc (suc k)) S = in_gender masculine S

-- a unit 1 to 9: "Units 1 and 2 come from `GENDERED`"
unfoldable pub unit_form : Settings → ℕ → Word
unit_form S u = cond (ltb u 3) (form3 gendered (u - 1) S.gender S.case) (form3 (by_apostrophe2 units) S.apostrophe (u - 3) S.case)

-- a teen by its value 10 to 19
unfoldable pub teen_form : Settings → ℕ → Word
teen_form S v = form2 (by_apostrophe1 teens_bases) S.apostrophe (v - 10) ++ form1 teens_flexions S.case

-- the words of digits under settings
unfoldable pub ukrainian_digits : Settings → DigitWords
ukrainian_digits S = record {
  hundred = λ h. form3 (by_apostrophe2 hundreds) S.apostrophe (h - 1) S.case;
  ten = λ t. form3 (by_apostrophe2 tens) S.apostrophe (t - 2) S.case;
  teen = λ v. teen_form S v;
  unit = λ u. unit_form S u;
}

-- agreement with a count that ends in the tens t and the units u: "units 0 or above 4, or tens 1"
abbrev pub many : ℕ → ℕ → Bool
many t u = (eqb u 0 || ltb 4 u) || eqb t 1

-- with many, "plural"; "Else units 1: singular"; "Else plural"
abbrev pub agreed_number : ℕ → ℕ → ℕ
agreed_number t u = cond (many t u) plural (cond (eqb u 1) singular plural)

-- with many, "genitive if the column is nominative"; otherwise "the same column"
abbrev pub agreed_case : Settings → ℕ → ℕ → ℕ
agreed_case S t u = cond (many t u && eqb S.case nominative) genitive S.case

-- the settings of a noun that agrees with that count
abbrev pub agreed : ℕ → ℕ → Settings → Settings
agreed t u S = in_form (agreed_number t u) (agreed_case S t u) S

-- the ending of the scale noun of an order
unfoldable pub scale_ending : Settings → ℕ → Word
scale_ending S order = cond (eqb order 1) (form2 thousand_flexions S.number S.case) (form2 mega_flexions S.number S.case)

-- the scale noun of an order above 0, as it agrees with the tens t and the units u
unfoldable pub scale_noun : Settings → ℕ → ℕ → ℕ → Word
scale_noun S order t u = form1 mega_bases (order - 1) ++ scale_ending (agreed t u S) order

-- "A nonzero group above order 0 ends in its scale noun"
abbrev pub noun_words : Settings → ℕ → ℕ → ℕ → List Word
noun_words S zero t u = []
noun_words S (suc k) t u = scale_noun S (suc k) t u ∷ []

-- the words of a group g at an order
unfoldable pub ukrainian_group : Settings → ℕ → ℕ → List Word
ukrainian_group S order g =
    num_words (ukrainian_digits (at_order order S)) (g / 100 % 10) (g / 10 % 10) (g % 10) ++ noun_words S order (g / 10 % 10) (g % 10)

-- how many orders its numbers have: those of 66 digits ("Number texts")
abbrev pub ukrainian_orders : ℕ
ukrainian_orders = 22

-- what Ukrainian has for its cardinals: its orders, words joined by a space, zero and minus
unfoldable pub ukrainian : Settings → Lexicon
ukrainian S = record {
  orders = ukrainian_orders;
  joiner = space;
  zero_word = form1 zeros S.case;
  minus_word = utf8 "мінус";
  group_words = λ order g. ukrainian_group S order g;
}
