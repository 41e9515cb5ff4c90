-- The words of a group's digits (01, "Ukrainian cardinals": "A group"). Cardinals rest on these, and the compounds of ordinals.
-- Assumes nothing.
use Rattle.std.specs.Prelude.{ℕ, zero, suc, ◌+◌, List, [], ◌∷◌, ◌++◌}
use Rattle.base.specs.Join.{Word}

-- hundreds by digit 1 to 9, tens by digit 2 to 9, teens by value 10 to 19, units by digit 1 to 9
pub record DigitWords : Type 0 where
  pub hundred : ℕ → Word
  pub ten : ℕ → Word
  pub teen : ℕ → Word
  pub unit : ℕ → Word

-- the word of a digit "if any": none for 0
abbrev pub opt : (ℕ → Word) → ℕ → List Word
opt w zero = []
opt w (suc d) = w (suc d) ∷ []

-- the tens digit t and the units digit u: "if the tens digit is 1, a teen (`TEENS_BASES` and `TEENS_FLEXIONS`);
-- else the tens word if any and the unit word if any"
abbrev pub low_words : DigitWords → ℕ → ℕ → List Word
low_words W zero u = opt W.unit u
low_words W (suc zero) u = W.teen (10 + u) ∷ []
low_words W (suc (suc t)) u = W.ten (suc (suc t)) ∷ opt W.unit u

-- "hundred word (`HUNDREDS`) if any; then" tens and units
abbrev pub num_words : DigitWords → ℕ → ℕ → ℕ → List Word
num_words W h t u = opt W.hundred h ++ low_words W t u
