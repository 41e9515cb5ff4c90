-- What the program writes to its input (01, "The program phrases"): the answers to the lines, in order.
-- Assumes nothing.
use Rattle.std.specs.Prelude.{ℕ, ◌≡◌}
use mathlib.Core.List.{List, [], ◌∷◌, ◌++◌, flatten}
use Rattle.base.specs.Divide.{divided}
use Rattle.base.specs.Signs.{line_feed}
use Rattle.phrases_answers.specs.Answers.{answer_line}

-- what line feeds ("byte 10") divide: the lines, and at last what is behind them all
abbrev pub parts : List ℕ → List (List ℕ)
parts s = divided line_feed s

-- "the last line may lack its line end": what is behind the last line feed is a line unless it is nothing
abbrev pub last_answer : List ℕ → List ℕ
last_answer [] = []
last_answer (b ∷ l) = answer_line (b ∷ l)

-- the answers to the lines, one after another ("writes one line each")
unfoldable pub answers : List (List ℕ) → List ℕ
answers [] = []
answers (l ∷ []) = last_answer l
answers (l ∷ m ∷ ls) = answer_line l ++ answers (m ∷ ls)

-- what is written to an input
unfoldable pub program : List ℕ → List ℕ
program s = answers (parts s)

-- the line so far p and then the bytes of a block came in, w was written, and the line so far is q: whatever follows, what was written and what will
-- be is the answer to all of it
abbrev pub Answered : List ℕ → List ℕ → List ℕ → List ℕ → Type 0
Answered p block w q = (rest : List ℕ) → program (p ++ (block ++ rest)) ≡ w ++ program (q ++ rest)

-- blocks that came in one after another from the line so far p on, all that was written to them, and the line so far at their end
pub data Blocks : List ℕ → List (List ℕ) → List ℕ → List ℕ → Type 0 where
  no_blocks : (p : List ℕ) → Blocks p [] [] p
  one_more : (p q r block w v : List ℕ) (bs : List (List ℕ)) → Answered p block w q → Blocks q bs v r → Blocks p (block ∷ bs) (w ++ v) r

-- the program's conclusion: however the input falls into blocks, what was written to them, and then the answer to the line that is left, is what the
-- program writes to all of it
abbrev pub WholeInput : Type 0
WholeInput = (bs : List (List ℕ)) (w q : List ℕ) → Blocks [] bs w q → program (flatten bs) ≡ w ++ program q
