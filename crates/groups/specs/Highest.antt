-- A number's groups, and how many orders hold those that are not 0. They serve the code; no call's contract cites them.
-- Assumes nothing.
use Rattle.std.specs.Prelude.{ℕ, ◌-◌, ◌≤◌, ◌<◌, List, ◌≡◌, length, get_or}

-- the groups from n on are 0
abbrev pub ZeroFrom : List ℕ → ℕ → Type 0
ZeroFrom gs n = (i : ℕ) → n ≤ i → get_or gs i 0 ≡ 0

-- n orders hold a number's groups: those from n on are 0, and where n is above 1 the highest of them is not
pub record Highest (gs : List ℕ) (n : ℕ) : Type 0 where
  pub fits : n ≤ length gs
  pub zeros : ZeroFrom gs n
  pub some : 1 < n → get_or gs (n - 1) 0 ≡ 0 → ⊥
