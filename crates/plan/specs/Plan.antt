-- A plan: the pieces of a phrase as numbers, the place of the text in a pool times 256 and the separator.
-- Assumes nothing.
use Rattle.std.specs.Prelude.{ℕ, ◌+◌, ◌/◌, ◌%◌, ◌<◌, ◌≤◌, ◌≡◌, List, [], ◌∷◌, ◌++◌, length, map}
use Rattle.words.specs.Part.{part}
use Rattle.plan.specs.Phrase.{Piece}

-- the piece of a number
unfoldable pub piece_of : List ℕ → ℕ → Piece
piece_of pool c = (c % 256, part pool (c / 256))

-- the pieces of a plan
unfoldable pub pieces : List ℕ → List ℕ → List Piece
pieces pool xs = map (piece_of pool) xs

-- the places of all numbers are below a limit
abbrev pub Below : ℕ → List ℕ → Type 0
Below limit [] = Unit {0}
Below limit (c ∷ cs) = (c / 256 < limit) × Below limit cs

-- the plan xs has become ys by at most k pieces more, which say ps
pub record Added (pool : List ℕ) (k : ℕ) (xs ys : List ℕ) (ps : List Piece) : Type 0 where
  pub near : length ys ≤ length xs + k
  pub more : pieces pool ys ≡ pieces pool xs ++ ps
