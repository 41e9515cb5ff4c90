-- Demand 3 for French cardinals and ordinals, over the calls' definitions.
-- Assumes nothing.
use Prim.Native.Nat.{ℕ}
use mathlib.Core.Path.{◌≡◌, refl, sym, ◌∙◌}
use mathlib.Core.Bool.{false}
use mathlib.Core.List.{List}
use native.Mathlib.Omega.{arith}
use Rattle.tables.proofs.Tests.{clash_of as clash}
use Rattle.base.specs.Claim.{Inverse}
use Rattle.base.proofs.Closing as closing
use Rattle.settings.specs.Settings.{french_ranges}
use Rattle.settings.specs.Settings.{Settings}
use Rattle.settings.proofs.Ranges.{in_range, behind_settings}
use Rattle.figures.specs.Groups.{total}
use Rattle.figures.specs.Refusals.{french_digit_limit, cardinal_refusals, ordinal_refusals, Admitted}
use Rattle.cardinals.specs.Grammar.{Says}
use Rattle.cardinals.proofs.Numbers.{said}
use Rattle.cardinals.proofs.Inverse as laws
use Rattle.numerals.proofs.Readings.{Bounded}
use Rattle.fr.specs.Rules.{french}
use Rattle.fr.specs.Ordinal.{nth_phrase}
use Rattle.fr.specs.Grammar.{SaysNth}
use Rattle.fr.proofs.Ordinals.{says_nth, said_nth}
use Rattle.fr_read.specs.Reading.{meanings, is_minus, behind_minus, guessed}
use Rattle.fr_read.proofs.Decided.{found, found_nth}
use Rattle.fr_calls.specs.FrCalls.{fr_to_cardinal, fr_to_ordinal, fr_from_cardinal, fr_from_ordinal}

module _ (S : Settings) where
  -- any sign of an ordinal is refused
  nths : laws.OnePhrase (SaysNth S) (λ m. nth_phrase S) (λ m. m) 34
  nths = record {
    says = λ m n h z f. rw f (says_nth S n h);
    small = λ w. (said_nth S w).0;
    phrased = λ w. (said_nth S w).1;
    signed = λ w. (said_nth S w).2;
  }

  pub bounded_cardinal : (s : List ℕ) → Bounded (Says (french S) s)
  unfolding french
  bounded_cardinal s = record { small = λ w. laws.few_digits (laws.cardinals (french S)) (omega arith) (omega arith) w; some = λ w. (said (french S) w).2 refl }

  pub bounded_nth : (s : List ℕ) → Bounded (SaysNth S s)
  bounded_nth s = record { small = λ w. laws.few_digits nths (omega arith) (omega arith) w; some = λ w. clash (sym (said_nth S w).2) }

  pub cardinals : (fr_from_cardinal S).refusal ≡ 0 → Inverse (λ (t : List ℕ). Admitted (cardinal_refusals french_digit_limit t)) (fr_to_cardinal S) (fr_from_cardinal S)
  unfolding french
  cardinals v =
      closing.inverse v (λ t a. behind_settings (french_ranges S) (cardinal_refusals french_digit_limit t) v ∙ a) (λ t a. sym (behind_settings (french_ranges S) (cardinal_refusals french_digit_limit t) v) ∙ a)
      (laws.readable (laws.cardinals (french S)) (omega arith) (omega arith) (λ s. is_minus (meanings s)) (λ s. total (guessed (behind_minus (meanings s))))
      (found S (in_range (french_ranges S) v)))

  pub ordinals : (fr_from_ordinal S).refusal ≡ 0 → Inverse (λ (t : List ℕ). Admitted (ordinal_refusals french_digit_limit t)) (fr_to_ordinal S) (fr_from_ordinal S)
  ordinals v =
      closing.inverse v (λ t a. behind_settings (french_ranges S) (ordinal_refusals french_digit_limit t) v ∙ a) (λ t a. sym (behind_settings (french_ranges S) (ordinal_refusals french_digit_limit t) v) ∙ a)
      (laws.readable nths (omega arith) (omega arith) (λ s. false) (λ s. total (guessed (meanings s))) (found_nth S (in_range (french_ranges S) v)))
