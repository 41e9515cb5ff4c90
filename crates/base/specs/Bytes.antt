-- Some bytes as one number, the first the lowest: how the code takes several at a time, and how a tally's numbers lie.
-- Assumes nothing.
use Rattle.std.specs.Prelude.{ℕ, zero, suc, ◌+◌, ◌*◌, ◌/◌, ◌%◌, ◌<◌, List, [], ◌∷◌, get_or}

-- the number of some bytes
abbrev pub num : List ℕ → ℕ
num [] = 0
num (b ∷ bs) = b + num bs * 256

-- the k lowest bytes of a number
abbrev pub low_bytes : ℕ → ℕ → List ℕ
low_bytes zero w = []
low_bytes (suc k) w = (w % 256) ∷ low_bytes k (w / 256)

-- each of these numbers is a byte
abbrev pub Bytes : List ℕ → Type 0
Bytes t = (i : ℕ) → get_or t i 0 < 256
