-- How far a text of a pool extends, told by its place without the pool's bytes. It ties the code to the tables; no call's answer is defined by it.
-- Assumes nothing.
use Rattle.std.specs.Prelude.{ℕ, ◌+◌, ◌≤◌, ◌<◌, ◌≡◌, List, [], ◌∷◌, length, take, drop}
use Rattle.base.specs.Measure.{spaces}
use Rattle.words.specs.declared.extents.Extent.{Extent}

-- how many spaces stand before each of some bytes, and before their end, where k stand before the first
unfoldable pub counts_from : ℕ → List ℕ → List ℕ
counts_from k [] = k ∷ []
counts_from k (b ∷ s) = k ∷ counts_from (k + spaces (b ∷ [])) s

-- more bytes than any pool has: their number is added to, and must not overflow
abbrev pub longest_pool : ℕ
longest_pool = 65536

-- counts that may be those of a pool
abbrev pub Countable : ℕ → List ℕ → Type 0
Countable unspaced counts = (0 < length counts) × (unspaced + length counts ≤ longest_pool)

-- so many first bytes of a pool have no space, and these are the counts of the others
pub record SpacesCounted (pool : List ℕ) (unspaced : ℕ) (counts : List ℕ) : Type 0 where
  pub within : unspaced ≤ length pool
  pub none : spaces (take unspaced pool) ≡ 0
  pub others : counts ≡ counts_from 0 (drop unspaced pool)

-- the extent of a text
pub record Extends (text : List ℕ) (extent : Extent) : Type 0 where
  pub spaced : extent.spaces ≡ spaces text
  pub sized : extent.length ≡ length text
