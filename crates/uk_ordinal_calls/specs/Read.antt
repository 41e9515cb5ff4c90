-- What the code decides of the settings of a reading call. No call's answer is defined by it.
-- Assumes nothing.
use Rattle.std.specs.Prelude.{ℕ, ◌≡◌, Result, Ok, Err}
use Rattle.base.specs.declared.Refusal.{Refusal}
use Rattle.base.specs.declared.Refusal.TheVariants.{WrongSetting}
use Rattle.settings.specs.Settings.{Settings}
use Rattle.settings.specs.Chosen.{numbers_of}
use Rattle.settings.specs.declared.ukrainian.Ukrainian.{Ukrainian}
use Rattle.uk_ordinal_calls.specs.UkOrdinals.{reading_refusal}

-- settings under which a phrase is read are chosen, and others refused
pub record ChoosesSchool (r : Result Ukrainian Refusal) (S : Settings) : Type 0 where
  pub chosen : (s : Ukrainian) → r ≡ Ok s → (numbers_of s ≡ S) × (reading_refusal S ≡ 0)
  pub refused : (e : Refusal) → r ≡ Err e → (e ≡ WrongSetting) × (reading_refusal S ≡ 1)
