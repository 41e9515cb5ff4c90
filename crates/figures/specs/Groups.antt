-- A number as groups of three decimal digits, the lowest first (01, "From the repository, and added": `split_thousands`; "Number texts": 22
-- groups, 34 groups).
-- Assumes nothing.
use Rattle.std.specs.Prelude.{ℕ, zero, suc, ◌+◌, ◌*◌, ◌/◌, ◌%◌, ◌<◌, List, [], ◌∷◌}

-- the k lowest groups of n
unfoldable pub groups_of : ℕ → ℕ → List ℕ
groups_of zero n = []
groups_of (suc k) n = n % 1000 ∷ groups_of k (n / 1000)

-- the number with these groups
abbrev pub total : List ℕ → ℕ
total [] = 0
total (g ∷ gs) = g + 1000 * total gs

-- each of them has at most three digits
abbrev pub Groups : List ℕ → Type 0
Groups [] = Unit {0}
Groups (g ∷ gs) = (g < 1000) × Groups gs
