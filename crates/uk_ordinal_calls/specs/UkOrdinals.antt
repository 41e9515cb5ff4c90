-- The calls of ordinals, digit ordinals and years: what spelling comes to (01, "Ukrainian ordinals, years, codes"), and reading (02, W3).
-- Assumes nothing.
use Rattle.std.specs.Prelude.{ℕ, ◌≡◌, not, List, [], ◌∷◌, ℤ}
use Rattle.base.specs.Answer.{wrong_setting, Spelling, first_of}
use Rattle.base.specs.Reading.{Reading}
use Rattle.base.specs.Join.{joined}
use Rattle.settings.specs.Settings.{ukrainian_ranges}
use Rattle.settings.specs.Refused.{out_of_range}
use Rattle.settings.specs.Settings.{Settings}
use Rattle.figures.specs.Text.{value, unsigned}
use Rattle.figures.specs.Refusals.{ukrainian_digit_limit, ordinal_refusals, digit_ordinal_refusals, year_refusals, Admitted}
use Rattle.figures.specs.Year.{year_of}
use Rattle.uk_ordinal.specs.Ordinal.{school, ordinal_words}
use Rattle.uk_ordinal.specs.DigitOrdinal.{digit_ordinal}
use Rattle.uk_ordinal.specs.Year.{year_words}

-- the ordinal of a number text
abbrev pub uk_to_ordinal : Settings → List ℕ → Spelling
uk_to_ordinal S t = record {
  refusal = first_of (out_of_range (ukrainian_ranges S) ∷ ordinal_refusals ukrainian_digit_limit t);
  phrase = joined (ordinal_words S (value (unsigned t)));
}

-- its digit ordinal
abbrev pub uk_to_ordinal_num : Settings → List ℕ → Spelling
uk_to_ordinal_num S t = record { refusal = first_of (out_of_range (ukrainian_ranges S) ∷ digit_ordinal_refusals t); phrase = digit_ordinal S t }

-- a year
abbrev pub uk_to_year : Settings → ℤ → Spelling
uk_to_year S y = record { refusal = first_of (out_of_range (ukrainian_ranges S) ∷ []); phrase = joined (year_words S y) }

-- the year that a text means: "A malformed year is refused 3, one beyond 64 signed bits 5" ("The program phrases")
abbrev pub year_text : Settings → List ℕ → Spelling
year_text S t = record { refusal = first_of (out_of_range (ukrainian_ranges S) ∷ year_refusals t); phrase = (uk_to_year S (year_of t)).phrase }

-- a reading call's refusal: it "gives 1 (under style 0 too)" (02, W3)
abbrev pub reading_refusal : Settings → ℕ
reading_refusal S = first_of (out_of_range (ukrainian_ranges S) ∷ (not (school S), wrong_setting) ∷ [])

-- the number text of an ordinal: t is the admitted text of which the phrase is s; "a phrase that style 1 spells under those settings for no number is 6"
abbrev pub uk_from_ordinal : Settings → Reading
uk_from_ordinal S = record {
  refusal = reading_refusal S;
  Means = λ (s t : List ℕ). Admitted (ordinal_refusals ukrainian_digit_limit t) × ((uk_to_ordinal S t).phrase ≡ s);
}

-- that of a year: "so is a year phrase beyond 64 signed bits"
abbrev pub uk_from_year : Settings → Reading
uk_from_year S = record { refusal = reading_refusal S; Means = λ (s t : List ℕ). Admitted (year_refusals t) × ((year_text S t).phrase ≡ s) }
