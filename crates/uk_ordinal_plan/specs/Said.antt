-- What pieces say after others, and how they begin: for words that run together from many pieces.
-- Assumes nothing.
use Rattle.std.specs.Prelude.{ℕ, ◌≡◌}
use mathlib.Core.List.{List, [], ◌∷◌, ◌++◌, flatten}
use Rattle.base.specs.Join.{Word, spaced_by}
use Rattle.base.specs.Signs.{space}
use Rattle.plan.specs.Phrase.{Piece, gap, following}
use Rattle.plan.specs.Plan.{Added}

-- no pieces, or the first has the separator s
pub data LedBy (s : ℕ) : List Piece → Type 0 where
  nothing : LedBy s []
  piece : (w : Word) (ps : List Piece) → LedBy s ((s, w) ∷ ps)

-- the plan xs has become ys by at most k pieces more, led by the separator s, which say the bytes b
pub record Said (pool : List ℕ) (s k : ℕ) (xs ys : List ℕ) (b : List ℕ) : Type 0 where
  pub pieces : List Piece
  pub added : Added pool k xs ys pieces
  pub led : LedBy s pieces
  pub bytes : following pieces ≡ b

-- words run together after the separator s; nothing for none
unfoldable pub run_on : ℕ → List Word → List ℕ
run_on s [] = []
run_on s (w ∷ ws) = gap s ++ flatten (w ∷ ws)

-- `Said` of the words ws, run together after the separator s
pub record Ran (pool : List ℕ) (s k : ℕ) (xs ys : List ℕ) (ws : List Word) : Type 0 where
  pub said : Said pool s k xs ys (run_on s ws)

-- `Said` of the words ws, each after a space
pub record Spoken (pool : List ℕ) (k : ℕ) (xs ys : List ℕ) (ws : List Word) : Type 0 where
  pub said : Said pool space k xs ys (spaced_by space ws)
