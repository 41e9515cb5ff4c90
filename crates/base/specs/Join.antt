-- Words joined (01, "Ukrainian cardinals": "words joined by one space"; "French": "joined by a space, or by `-` if reformed").
-- Assumes nothing.
use Rattle.std.specs.Prelude.{List, [], ◌∷◌, ◌++◌, ℕ}
use Rattle.base.specs.Signs.{space}

-- the bytes of a word
abbrev pub Word : Type 0
Word = List ℕ

-- words after others, each with the joiner j before it
abbrev pub spaced_by : ℕ → List Word → List ℕ
spaced_by j [] = []
spaced_by j (w ∷ ws) = j ∷ (w ++ spaced_by j ws)

-- the words joined by j
abbrev pub joined_by : ℕ → List Word → List ℕ
joined_by j [] = []
joined_by j (w ∷ ws) = w ++ spaced_by j ws

-- joined by single spaces
abbrev pub joined : List Word → List ℕ
joined ws = joined_by space ws
