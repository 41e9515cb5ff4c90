-- What the reader makes of a text's words besides number words: it passes the nouns. What it makes of them is compared with the grammar's own
-- words afterwards, so nothing here has to be believed.
-- Assumes nothing.
use Rattle.std.specs.Prelude.{cond, List, [], ◌∷◌, eqb}
use Rattle.base.specs.Join.{Word}
use Rattle.uk_read.specs.Reading.{mean}

-- the words behind those at the front that are no number words
unfoldable pub behind : List Word → List Word
behind [] = []
behind (w ∷ ws) = cond (eqb (mean w) 0) (behind ws) (w ∷ ws)
