-- A phrase as a list of pieces, which is how the code plans it.
-- Assumes nothing.
use Rattle.std.specs.Prelude.{ℕ, zero, suc, List, [], ◌∷◌, ◌++◌}
use Rattle.base.specs.Signs.{space}

-- a separator, a byte or 0 for none, and a text
abbrev pub Piece : Type 0
Piece = ℕ × List ℕ

-- a word of its own; one that runs on
abbrev pub word : List ℕ → Piece
word b = (space, b)

abbrev pub on : List ℕ → Piece
on b = (0, b)

-- what a separator says
abbrev pub gap : ℕ → List ℕ
gap zero = []
gap (suc b) = suc b ∷ []

-- pieces after others, each with its separator
unfoldable pub following : List Piece → List ℕ
following [] = []
following (p ∷ ps) = (gap p.0 ++ p.1) ++ following ps

-- the bytes of a phrase: its first piece's separator is not said
unfoldable pub phrase_of : List Piece → List ℕ
phrase_of [] = []
phrase_of (p ∷ ps) = p.1 ++ following ps
