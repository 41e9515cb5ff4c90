-- The places by which the code knows the French words. They tie the code to the tables; no call's contract cites them.
-- Assumes nothing.
use Rattle.std.specs.Prelude.{ℕ, ◌+◌, ◌%◌, ◌<◌, ◌≡◌, ◌++◌, length}
use Rattle.base.specs.Join.{Word}
use Rattle.base.specs.Utf8.{utf8}
use Rattle.words.specs.Part.{part}
use Rattle.fr.specs.Pool.{fr_pool}

-- the place of a text that is not empty, and all of which the pool has
pub record Known (place : ℕ) : Type 0 where
  pub some : 0 < place % 40
  pub whole : length (part fr_pool place) ≡ place % 40

-- the place of this word
pub record Placed (place : ℕ) (w : Word) : Type 0 where
  pub says : part fr_pool place ≡ w
  pub known : Known place

-- and of its plural, with an `s`, one byte more
pub record Plural (place : ℕ) (w : Word) : Type 0 where
  pub one : Placed place w
  pub more : Placed (place + 1) (w ++ utf8 "s")
