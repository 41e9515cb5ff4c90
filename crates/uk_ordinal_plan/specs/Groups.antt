-- The groups of a number, as the planners take them.
-- Assumes nothing.
use Rattle.std.specs.Prelude.{ℕ, ◌<◌, ◌≡◌, List, get_or, Option, Some, None}
use Rattle.uk.specs.Ukrainian.{ukrainian_orders}

-- the lowest of 22 groups that is not 0 is at this order, or there is none
pub record LowestAt (gs : List ℕ) (r : Option ℕ) : Type 0 where
  pub found : (order : ℕ) → r ≡ Some order → (order < ukrainian_orders) × ((i : ℕ) → i < order → get_or gs i 0 ≡ 0) × (get_or gs order 0 ≡ 0 → ⊥)
  pub none : r ≡ None → (i : ℕ) → get_or gs i 0 ≡ 0
