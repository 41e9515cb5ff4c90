-- The two calls of Ukrainian cardinals (01, "Ukrainian cardinals"): what spelling and reading come to.
-- Assumes nothing.
use Rattle.std.specs.Prelude.{ℕ, List, [], ◌∷◌}
use Rattle.base.specs.Answer.{Spelling, first_of}
use Rattle.base.specs.Reading.{Reading}
use Rattle.settings.specs.Settings.{ukrainian_ranges}
use Rattle.settings.specs.Refused.{out_of_range}
use Rattle.settings.specs.Settings.{Settings}
use Rattle.figures.specs.Text.{value, negative, unsigned}
use Rattle.figures.specs.Refusals.{ukrainian_digit_limit, cardinal_refusals}
use Rattle.figures.specs.Value.{NumberMeans}
use Rattle.cardinals.specs.Cardinal.{cardinal_phrase}
use Rattle.cardinals.specs.Grammar.{Says}
use Rattle.uk.specs.Ukrainian.{ukrainian}

-- the cardinal of a number text
abbrev pub uk_to_cardinal : Settings → List ℕ → Spelling
uk_to_cardinal S t = record {
  refusal = first_of (out_of_range (ukrainian_ranges S) ∷ cardinal_refusals ukrainian_digit_limit t);
  phrase = cardinal_phrase (ukrainian S) (negative t) (value (unsigned t));
}

-- the number text of a cardinal: the value of the phrase s is the text t
abbrev pub uk_from_cardinal : Settings → Reading
uk_from_cardinal S = record { refusal = first_of (out_of_range (ukrainian_ranges S) ∷ []); Means = λ (s t : List ℕ). NumberMeans (Says (ukrainian S) s) t }
