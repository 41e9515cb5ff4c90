-- Bytes divided at each of one byte: a line into words, an input into lines.
-- Assumes nothing.
use Rattle.std.specs.Prelude.{ℕ, ◌<◌, cond, List, [], ◌∷◌, eqb, length}

-- a byte put before the first of some parts
abbrev pub to_first : ℕ → List (List ℕ) → List (List ℕ)
to_first b [] = (b ∷ []) ∷ []
to_first b (l ∷ ls) = (b ∷ l) ∷ ls

-- what a byte d divides: what stands before each d, and at last what is behind them all
unfoldable pub divided : ℕ → List ℕ → List (List ℕ)
divided d [] = [] ∷ []
divided d (b ∷ s) = cond (eqb b d) ([] ∷ divided d s) (to_first b (divided d s))

-- every one of some parts has a byte
abbrev pub NoneEmpty : List (List ℕ) → Type 0
NoneEmpty [] = Unit
NoneEmpty (w ∷ ws) = (0 < length w) × NoneEmpty ws
