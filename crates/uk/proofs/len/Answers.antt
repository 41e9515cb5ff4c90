use mathlib.Core.Path.{refl}
use native.Mathlib.Omega.{arith}
use Rattle.base.specs.Measure.{spaces}
use Rattle.words.specs.Extents.{counts_from}
use Rattle.uk.specs.Pool.{uk_pool}
use Rattle.uk.proofs.len.Goals as goal

pub returns : goal.returns
unfolding spaces counts_from uk_pool
returns c = rw (← c.from.ensures) (c.extent_at.ensures.0 uk_pool (record { within = omega arith; none = refl; others = refl })).sized
