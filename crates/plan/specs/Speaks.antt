-- What pieces say as words: a word of one piece, or of a stem and an ending that runs on.
-- Assumes nothing.
use Rattle.std.specs.Prelude.{ℕ, List, [], ◌∷◌, ◌++◌}
use Rattle.base.specs.Join.{Word}
use Rattle.plan.specs.Phrase.{Piece, word, on}
use Rattle.plan.specs.Plan.{Added}

-- the pieces say the words
pub data Speaks : List Piece → List Word → Type 0 where
  none : Speaks [] []
  whole : (w : Word) {ps : List Piece} {ws : List Word} → Speaks ps ws → Speaks (word w ∷ ps) (w ∷ ws)
  ended : (w e : Word) {ps : List Piece} {ws : List Word} → Speaks ps ws → Speaks (word w ∷ on e ∷ ps) ((w ++ e) ∷ ws)

-- the plan xs has become ys by at most k pieces more, which say the words ws
pub record Told (pool : List ℕ) (k : ℕ) (xs ys : List ℕ) (ws : List Word) : Type 0 where
  pub pieces : List Piece
  pub added : Added pool k xs ys pieces
  pub speaks : Speaks pieces ws
