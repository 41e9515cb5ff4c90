-- What is read of a cardinal or an ordinal, answered.
-- Assumes nothing.
use Rattle.std.proofs.Common.{ℕ, List, Ok, Option, refl}
use Rattle.base.specs.Answer.{Answers}
use Rattle.base.specs.Reading.{Reads}
use Rattle.base.specs.declared.Answer.{Answer}
use Rattle.settings.specs.Settings.{Settings}
use Rattle.settings.specs.Chosen.{french_numbers_of, ChoosesFrench}
use Rattle.settings.specs.declared.french.French.{French}
use Rattle.settings.proofs.Handed.{chosen_within_french}
use Rattle.cardinals.specs.Grammar.{Says}
use Rattle.groups.specs.Read.{ReadOf}
use Rattle.groups.specs.declared.figure.Figure.{Figure}
use Rattle.numerals.specs.Reading.{answered}
use Rattle.numerals.proofs.Readings.{read_right}
use Rattle.fr.specs.Rules.{french}
use Rattle.fr.specs.Grammar.{SaysNth}
use Rattle.fr_calls.specs.FrCalls.{fr_from_cardinal, fr_from_ordinal}
use Rattle.fr_calls.proofs.Theorems.{bounded_cardinal, bounded_nth}

module _ {N : ℕ} (s : French) (S : Settings) (t xs ys : List ℕ) (r : Answer) (read : Option (Figure N)) (c : ChoosesFrench (Ok s) S) (a : Answers r xs ys (answered read xs)) where
  pub cardinal_read : ReadOf (Says (french (french_numbers_of s)) t) read → Reads (fr_from_cardinal S) t r xs ys
  cardinal_read p = read_right (Says (french S)) _ (rw (chosen_within_french s S c) refl) t xs ys r (bounded_cardinal S t) read (rw (c.chosen s refl) at p) a

  pub ordinal_read : ReadOf (SaysNth (french_numbers_of s) t) read → Reads (fr_from_ordinal S) t r xs ys
  ordinal_read p = read_right (SaysNth S) _ (rw (chosen_within_french s S c) refl) t xs ys r (bounded_nth S t) read (rw (c.chosen s refl) at p) a
