-- Years (01, "Number texts": "A year is a signed 64-bit number").
-- Assumes nothing.
use Rattle.std.specs.Prelude.{ℕ, suc, ◌-◌, ◌^◌, ◌≤◌, Bool, true, false, cond, List, ℤ, pos, negsuc, neg_ℤ}
use Rattle.figures.specs.Text.{value, negative, unsigned}

-- the year that a text means
abbrev pub year_of : List ℕ → ℤ
year_of xs = cond (negative xs) (neg_ℤ (pos (value (unsigned xs)))) (pos (value (unsigned xs)))

-- the largest magnitude of a negative year ("Ukrainian ordinals, years, codes": "of the lowest year is 9,223,372,036,854,775,808"), and of any other
abbrev pub year_limit : Bool → ℕ
year_limit minus = cond minus (2 ^ 63) (2 ^ 63 - 1)

-- a number of 64 signed bits; negsuc n is -(n + 1)
abbrev pub Signed64 : ℤ → Type 0
Signed64 (pos n) = n ≤ year_limit false
Signed64 (negsuc n) = suc n ≤ year_limit true
