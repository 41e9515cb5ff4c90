-- Demand 3 for Ukrainian cardinals, over the calls' definitions.
-- Assumes nothing.
use Prim.Native.Nat.{ℕ}
use mathlib.Core.Path.{◌≡◌, sym, ◌∙◌}
use mathlib.Core.List.{List}
use native.Mathlib.Omega.{arith}
use Rattle.base.specs.Claim.{Inverse}
use Rattle.base.proofs.Closing as closing
use Rattle.settings.specs.Settings.{ukrainian_ranges}
use Rattle.settings.specs.Settings.{Settings}
use Rattle.settings.proofs.Ranges.{in_range, behind_settings}
use Rattle.figures.specs.Refusals.{ukrainian_digit_limit, cardinal_refusals, Admitted}
use Rattle.cardinals.proofs.Inverse as laws
use Rattle.uk.specs.Ukrainian.{ukrainian}
use Rattle.uk_read.proofs.Compared.{made_sign, made_number, made}
use Rattle.uk_calls.specs.UkCardinals.{uk_to_cardinal, uk_from_cardinal}

pub cardinals : (S : Settings) → (uk_from_cardinal S).refusal ≡ 0 → Inverse (λ (t : List ℕ). Admitted (cardinal_refusals ukrainian_digit_limit t)) (uk_to_cardinal S) (uk_from_cardinal S)
unfolding ukrainian
cardinals S v =
    closing.inverse v (λ t a. behind_settings (ukrainian_ranges S) (cardinal_refusals ukrainian_digit_limit t) v ∙ a) (λ t a. sym (behind_settings (ukrainian_ranges S) (cardinal_refusals ukrainian_digit_limit t) v) ∙ a)
    (laws.readable (laws.cardinals (ukrainian S)) (omega arith) (omega arith) made_sign made_number (made S (in_range (ukrainian_ranges S) v)))
