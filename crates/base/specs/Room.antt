-- How long a phrase can be, and the room that the program keeps for an answer.
-- Assumes nothing.
use Rattle.std.specs.Prelude.{ℕ, ◌+◌, ◌*◌}

-- the most pieces of a plan: a French one's
abbrev pub most_pieces : ℕ
most_pieces = 172

-- the most bytes of a piece with its separator
abbrev pub longest_piece : ℕ
longest_piece = 40

-- the room for a phrase: no plan says more
abbrev pub phrase_room : ℕ
phrase_room = most_pieces * longest_piece

-- the room for a line: a phrase and its line feed
abbrev pub line_room : ℕ
line_room = phrase_room + 1
