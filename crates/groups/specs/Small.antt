-- That a number's groups have at most three digits each has one proof at most, so that a value can keep it.
-- Assumes nothing.
use Rattle.std.specs.Prelude.{ℕ, List, [], ◌∷◌}
use Rattle.std.specs.Coded.{×_prop, Unit-prop, le_prop}
use Rattle.figures.specs.Groups.{Groups}

pub Groups-prop : (gs : List ℕ) → IsProp (Groups gs)
Groups-prop [] = Unit-prop
Groups-prop (g ∷ gs) = ×_prop le_prop (Groups-prop gs)
