-- How the code decides what is refused of a text. No call's answer is defined by it.
-- Assumes nothing.
use Rattle.std.specs.Prelude.{ℕ, Bool, [], ◌∷◌}
use Rattle.base.specs.Answer.{malformed, wrong_sign, too_large, first_of}

-- the first that applies of the three: malformed, a sign that is refused, above the limit
abbrev pub judged : Bool → Bool → Bool → ℕ
judged is_malformed is_refused is_above = first_of ((is_malformed, malformed) ∷ (is_refused, wrong_sign) ∷ (is_above, too_large) ∷ [])
