-- What a planner of French words promises of its plan. A plan's numbers are those of `plan`: a word's place times 256, and its separator.
-- They serve the code; no call's contract cites them.
-- Assumes nothing.
use Rattle.std.specs.Prelude.{ℕ, ◌+◌, ◌/◌, ◌%◌, ◌≤◌, ◌≡◌, List, [], ◌∷◌, ◌++◌, length}
use Rattle.plan.specs.Phrase.{following}
use Rattle.plan.specs.Plan.{pieces}
use Rattle.fr.specs.Pool.{fr_pool}
use Rattle.fr.specs.Placed.{Known}

-- every number is a French text's
abbrev pub AllKnown : List ℕ → Type 0
AllKnown [] = Unit {0}
AllKnown (c ∷ cs) = Known (c / 256) × AllKnown cs

-- the first word has a separator
abbrev pub Opens : List ℕ → Type 0
Opens [] = Unit {0}
Opens (c ∷ cs) = c % 256 ≡ 0 → ⊥

-- the plan xs has become ys by at most k pieces more, which say the bytes b, separators included
pub record Appended (k : ℕ) (xs ys b : List ℕ) : Type 0 where
  pub codes : List ℕ
  pub near : length ys ≤ length xs + k
  pub more : ys ≡ xs ++ codes
  pub known : AllKnown codes
  pub opens : Opens codes
  pub speaks : following (pieces fr_pool codes) ≡ b
