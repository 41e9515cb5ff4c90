-- How the code writes number texts: the one text of each number, digit by digit. No call's answer is defined by it: a sentence's value is a text that
-- is well formed and means it (Value).
-- Assumes nothing.
use Rattle.std.specs.Prelude.{ℕ, zero, suc, ◌+◌, ◌/◌, ◌%◌, ◌^◌, Bool, cond, List, [], ◌∷◌, ◌++◌, ◌==◌, nat_lt}
use Rattle.base.specs.Signs.{hyphen, point, digit_zero}

-- the last k decimal digits of n, the highest first
abbrev pub fixed : ℕ → ℕ → List ℕ
fixed zero n = []
fixed (suc k) n = (digit_zero + n / 10 ^ k % 10) ∷ fixed k n

-- the fewest decimal digits, at least 1 and at most suc k, that hold n
abbrev pub width : ℕ → ℕ → ℕ
width zero n = 1
width (suc k) n = cond (nat_lt n (10 ^ suc k)) (width k n) (suc (suc k))

-- the number text of n, of at most the 102 digits that the longest limit allows
unfoldable pub decimal : ℕ → List ℕ
decimal n = fixed (width 101 n) n

-- the number text of n, or of -n if minus
abbrev pub signed_decimal : Bool → ℕ → List ℕ
signed_decimal minus n = cond minus (hyphen ∷ decimal n) (decimal n)

-- the money text of w and h hundredths, h below 100 ("Phrase grammar and reader": "whole part and hundredths as a money text")
abbrev pub money_decimal : ℕ → ℕ → List ℕ
money_decimal w h = decimal w ++ cond (h == 0) [] (point ∷ fixed 2 h)
