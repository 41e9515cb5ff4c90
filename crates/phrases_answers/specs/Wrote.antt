-- What a function that writes a line leaves in its buffer, and what it returns.
-- Assumes nothing.
use Rattle.std.specs.Prelude.{ℕ, ◌≤◌, ◌≡◌, List, length}
use Rattle.base.specs.Buffer.{over}
use Rattle.base.specs.Room.{line_room}

-- the line a was written over the front of the buffer xs, which then holds ys; r is its length, at most `line_room`
pub record Wrote (a : List ℕ) (r : ℕ) (xs ys : List ℕ) : Type 0 where
  pub size : r ≡ length a
  pub room : r ≤ line_room
  pub bytes : ys ≡ over xs a
