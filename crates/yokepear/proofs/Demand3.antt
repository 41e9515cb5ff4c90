-- Demand 3 of every kind that is read: `Inverse` (crate base) says it of the kind's two calls, as their contracts cite them, whatever the numbers and the
-- code are, if the reading call refuses neither (01's refusals 1 and 2).
-- Assumes nothing.
use Prim.Native.Nat.{ℕ}
use mathlib.Core.Path.{◌≡◌}
use mathlib.Core.List.{List}
use Rattle.base.specs.Claim.{Inverse}
use Rattle.settings.specs.Settings.{ukrainian_settings, french_settings}
use Rattle.figures.specs.Refusals.{ukrainian_digit_limit, french_digit_limit, cardinal_refusals, ordinal_refusals, year_refusals, amount_refusals, Admitted}
use Rattle.uk_calls.proofs.Theorem as uk_theorem
use Rattle.uk_ordinal_calls.specs.UkOrdinals.{year_text}
use Rattle.uk_ordinal_calls.proofs.Theorem as uk_ordinal_theorem
use Rattle.uk_money_calls.proofs.Theorem as uk_money_theorem
use Rattle.fr_calls.proofs.Theorems as fr_theorems
use Rattle.yokepear.specs.Calls.{to_cardinal, to_ordinal, to_currency, to_french_cardinal, to_french_ordinal, spelling_of, from_cardinal, from_ordinal, from_year, from_currency, from_french_cardinal, from_french_ordinal, reading_of}

-- Ukrainian cardinals
pub ukrainian_cardinals : (gender number case apostrophe style : ℕ) → (reading_of (from_cardinal gender number case apostrophe style)).refusal ≡ 0
    → Inverse (λ (t : List ℕ). Admitted (cardinal_refusals ukrainian_digit_limit t)) (λ (t : List ℕ). spelling_of (to_cardinal gender number case apostrophe style t)) (reading_of (from_cardinal gender number case apostrophe style))
ukrainian_cardinals gender number case apostrophe style = uk_theorem.cardinals (ukrainian_settings gender number case apostrophe style)

-- Ukrainian ordinals as taught in school
pub ukrainian_ordinals : (gender number case apostrophe style : ℕ) → (reading_of (from_ordinal gender number case apostrophe style)).refusal ≡ 0
    → Inverse (λ (t : List ℕ). Admitted (ordinal_refusals ukrainian_digit_limit t)) (λ (t : List ℕ). spelling_of (to_ordinal gender number case apostrophe style t)) (reading_of (from_ordinal gender number case apostrophe style))
ukrainian_ordinals gender number case apostrophe style = uk_ordinal_theorem.ordinals (ukrainian_settings gender number case apostrophe style)

-- Ukrainian years as taught in school, by the texts that name them: the spelling call is given the year itself
pub ukrainian_years : (gender number case apostrophe style : ℕ) → (reading_of (from_year gender number case apostrophe style)).refusal ≡ 0
    → Inverse (λ (t : List ℕ). Admitted (year_refusals t)) (λ (t : List ℕ). year_text (ukrainian_settings gender number case apostrophe style) t) (reading_of (from_year gender number case apostrophe style))
ukrainian_years gender number case apostrophe style = uk_ordinal_theorem.years (ukrainian_settings gender number case apostrophe style)

-- Ukrainian money
pub ukrainian_money : (gender number case apostrophe style : ℕ) (code : List ℕ) → (reading_of (from_currency gender number case apostrophe style code)).refusal ≡ 0
    → Inverse (λ (t : List ℕ). Admitted (amount_refusals t)) (λ (t : List ℕ). spelling_of (to_currency gender number case apostrophe style code t)) (reading_of (from_currency gender number case apostrophe style code))
ukrainian_money gender number case apostrophe style = uk_money_theorem.money (ukrainian_settings gender number case apostrophe style)

-- French cardinals
pub french_cardinals : (feminine reformed region : ℕ) → (reading_of (from_french_cardinal feminine reformed region)).refusal ≡ 0
    → Inverse (λ (t : List ℕ). Admitted (cardinal_refusals french_digit_limit t)) (λ (t : List ℕ). spelling_of (to_french_cardinal feminine reformed region t)) (reading_of (from_french_cardinal feminine reformed region))
french_cardinals feminine reformed region = fr_theorems.cardinals (french_settings feminine reformed region)

-- French ordinals
pub french_ordinals : (feminine reformed region : ℕ) → (reading_of (from_french_ordinal feminine reformed region)).refusal ≡ 0
    → Inverse (λ (t : List ℕ). Admitted (ordinal_refusals french_digit_limit t)) (λ (t : List ℕ). spelling_of (to_french_ordinal feminine reformed region t)) (reading_of (from_french_ordinal feminine reformed region))
french_ordinals feminine reformed region = fr_theorems.ordinals (french_settings feminine reformed region)
