-- How the code holds a line of which the end has not come in. No answer is defined by it.
-- Assumes nothing.
use Rattle.std.specs.Prelude.{ℕ, Bool, true, not, ◌&&◌, List, [], ◌∷◌, eqb}
use Rattle.base.specs.Signs.{line_feed}

-- no line feed stands in a line
unfoldable pub is_line : List ℕ → Bool
is_line [] = true
is_line (b ∷ s) = not (eqb b line_feed) && is_line s
