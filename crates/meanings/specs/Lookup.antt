-- A number looked up by a key.
-- Assumes nothing.
use Rattle.std.specs.Prelude.{ℕ, ◌/◌, ◌%◌, cond, List, [], ◌∷◌, eqb}

-- keys with what they stand for
abbrev pub Entries : Type 0
Entries = List (ℕ × ℕ)

-- what stands at the first entry with this key, or 0
unfoldable pub lookup : ℕ → Entries → ℕ
lookup key [] = 0
lookup key (e ∷ es) = cond (eqb key e.0) e.1 (lookup key es)

-- what a key means whose place has the number e: below 1048576 stands the key that the place belongs to, above it what that key means
abbrev pub meaning_at : ℕ → ℕ → ℕ
meaning_at key e = cond (eqb (e % 1048576) key) (e / 1048576) 0
