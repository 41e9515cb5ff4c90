-- What is read of a cardinal, answered.
-- Assumes nothing.
use Rattle.std.proofs.Common.{ℕ, List, Ok, Option, refl, arith}
use Rattle.base.specs.Answer.{Answers}
use Rattle.base.specs.Reading.{Reads}
use Rattle.base.specs.declared.Answer.{Answer}
use Rattle.settings.specs.Settings.{Settings}
use Rattle.settings.specs.Chosen.{numbers_of, Chooses}
use Rattle.settings.specs.declared.ukrainian.Ukrainian.{Ukrainian}
use Rattle.settings.proofs.Handed.{chosen_within}
use Rattle.cardinals.specs.Grammar.{Says}
use Rattle.cardinals.proofs.Numbers.{said}
use Rattle.cardinals.proofs.Inverse.{cardinals, few_digits}
use Rattle.groups.specs.Read.{ReadOf}
use Rattle.groups.specs.declared.figure.Figure.{Figure}
use Rattle.numerals.specs.Reading.{answered}
use Rattle.numerals.proofs.Readings.{Bounded, read_right}
use Rattle.uk.specs.Ukrainian.{ukrainian}
use Rattle.uk_calls.specs.UkCardinals.{uk_from_cardinal}

bounded : (S : Settings) (s : List ℕ) → Bounded (Says (ukrainian S) s)
unfolding ukrainian
bounded S s = record { small = λ p. few_digits (cardinals (ukrainian S)) (omega arith) (omega arith) p; some = λ p. (said (ukrainian S) p).2 refl }

pub cardinal_read : {N : ℕ} (s : Ukrainian) (S : Settings) (t xs ys : List ℕ) (r : Answer) (read : Option (Figure N)) → Chooses (Ok s) S → ReadOf (Says (ukrainian (numbers_of s)) t) read
    → Answers r xs ys (answered read xs) → Reads (uk_from_cardinal S) t r xs ys
cardinal_read s S t xs ys r read c p a =
    read_right (Says (ukrainian S)) _ (rw (chosen_within s S c) refl) t xs ys r (bounded S t) read (rw (c.chosen s refl) at p) a
