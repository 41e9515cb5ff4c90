-- The counts are those of the texts' spaces. Made by tools/gen_words.py.
-- Assumes nothing.
use mathlib.Core.Path.{refl}
use mathlib.Core.List.{[], ◌∷◌}
use native.Mathlib.Omega.{arith}
use Rattle.base.specs.Measure.{spaces}
use Rattle.words.specs.Extents.{counts_from, SpacesCounted}
use Rattle.uk.specs.Pool.{uk_pool}

pub counted : SpacesCounted uk_pool 2988 (0 ∷ [])
unfolding spaces counts_from uk_pool
counted = record { within = omega arith; none = refl; others = refl }
