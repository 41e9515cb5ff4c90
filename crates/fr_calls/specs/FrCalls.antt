-- The French calls: what spelling and reading come to (01, "French").
-- Assumes nothing.
use Rattle.std.specs.Prelude.{ℕ, List, [], ◌∷◌}
use Rattle.base.specs.Answer.{Spelling, first_of}
use Rattle.base.specs.Reading.{Reading}
use Rattle.settings.specs.Settings.{french_ranges}
use Rattle.settings.specs.Refused.{out_of_range}
use Rattle.settings.specs.Settings.{Settings}
use Rattle.figures.specs.Text.{value, negative, unsigned}
use Rattle.figures.specs.Refusals.{french_digit_limit, cardinal_refusals, ordinal_refusals}
use Rattle.figures.specs.Value.{NumberMeans}
use Rattle.cardinals.specs.Cardinal.{cardinal_phrase}
use Rattle.cardinals.specs.Grammar.{Says}
use Rattle.fr.specs.Rules.{french}
use Rattle.fr.specs.Ordinal.{nth_phrase}
use Rattle.fr.specs.Grammar.{SaysNth}

-- the cardinal of a number text
abbrev pub fr_to_cardinal : Settings → List ℕ → Spelling
fr_to_cardinal S t = record {
  refusal = first_of (out_of_range (french_ranges S) ∷ cardinal_refusals french_digit_limit t);
  phrase = cardinal_phrase (french S) (negative t) (value (unsigned t));
}

-- its ordinal
abbrev pub fr_to_ordinal : Settings → List ℕ → Spelling
fr_to_ordinal S t = record { refusal = first_of (out_of_range (french_ranges S) ∷ ordinal_refusals french_digit_limit t); phrase = nth_phrase S (value (unsigned t)) }

-- the number text of a cardinal: the value of the phrase s is the text t
abbrev pub fr_from_cardinal : Settings → Reading
fr_from_cardinal S = record { refusal = first_of (out_of_range (french_ranges S) ∷ []); Means = λ (s t : List ℕ). NumberMeans (Says (french S) s) t }

-- and of an ordinal
abbrev pub fr_from_ordinal : Settings → Reading
fr_from_ordinal S = record { refusal = first_of (out_of_range (french_ranges S) ∷ []); Means = λ (s t : List ℕ). NumberMeans (SaysNth S s) t }
