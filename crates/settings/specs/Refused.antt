-- The first condition of every call (01, "Where each refusal arises", 1: "a setting number outside its range").
-- Assumes nothing.
use Rattle.std.specs.Prelude.{ℕ, Bool, not, List}
use Rattle.base.specs.Answer.{wrong_setting}
use Rattle.settings.specs.Settings.{within}

-- one of these values is not below its bound
abbrev pub out_of_range : List (ℕ × ℕ) → Bool × ℕ
out_of_range ranges = (not (within ranges), wrong_setting)
