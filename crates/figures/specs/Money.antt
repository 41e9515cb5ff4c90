-- Money texts (01, "Number texts": "A money text may add `.` and two digits, not both zero").
-- Assumes nothing.
use Rattle.std.specs.Prelude.{ℕ, ◌-◌, Bool, cond, not, ◌&&◌, List, [], length, take, drop, ◌==◌, nat_le, slice_index}
use Rattle.base.specs.Signs.{point}
use Rattle.figures.specs.Text.{digits, plain, value, unsigned, well_formed}

-- a '.' stands before the last two bytes
abbrev pub pointed : List ℕ → Bool
pointed xs = nat_le 3 (length xs) && slice_index xs (length xs - 3) == point

-- what stands before the '.', with the sign
abbrev pub whole_text : List ℕ → List ℕ
whole_text xs = cond (pointed xs) (take (length xs - 3) xs) xs

-- what stands after the '.'
abbrev pub hundredths_text : List ℕ → List ℕ
hundredths_text xs = cond (pointed xs) (drop (length xs - 2) xs) []

-- "two digits, not both zero", of two bytes
abbrev pub are_hundredths : List ℕ → Bool
are_hundredths xs = digits xs && not (value xs == 0)

-- a whole part and hundredths, or a number text; "its `-` is well formed before anything but plain zero"
abbrev pub money_formed : List ℕ → Bool
money_formed xs = cond (pointed xs) (plain (unsigned (whole_text xs)) && are_hundredths (hundredths_text xs)) (well_formed xs)

-- an amount's whole part
abbrev pub whole_of : List ℕ → ℕ
whole_of xs = value (unsigned (whole_text xs))

-- its hundredths, 0 where none are written
abbrev pub hundredths_of : List ℕ → ℕ
hundredths_of xs = value (hundredths_text xs)

-- the largest whole part: "at most 18,446,744,073,709,551,615"
abbrev pub money_limit : ℕ
money_limit = 18446744073709551615
