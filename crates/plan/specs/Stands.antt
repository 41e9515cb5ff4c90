-- Whether a text is made of pieces that follow others, compared piece by piece from the front.
-- Assumes nothing.
use Rattle.std.specs.Prelude.{ℕ, Bool, true, false, cond, List, [], ◌∷◌, ◌++◌, length, drop}
use Rattle.base.specs.Front.{begins}
use Rattle.plan.specs.Phrase.{Piece, gap}

-- the text is empty
abbrev pub is_nil : List ℕ → Bool
is_nil [] = true
is_nil (b ∷ s) = false

-- the text s is what the pieces say after others: each stands at the front of what is left behind those before it
unfoldable pub stands : List Piece → List ℕ → Bool
stands [] s = is_nil s
stands (p ∷ ps) s = cond (begins (gap p.0 ++ p.1) s) (stands ps (drop (length (gap p.0 ++ p.1)) s)) false
