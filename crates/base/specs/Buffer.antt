-- What a lent buffer holds once an answer is written to it (README, demand 1).
-- Assumes nothing.
use Rattle.std.specs.Prelude.{ℕ, List, ◌++◌, length, drop}

-- the buffer xs with the bytes b written from its first byte on, every later byte as it was
abbrev pub over : List ℕ → List ℕ → List ℕ
over xs b = b ++ drop (length b) xs
