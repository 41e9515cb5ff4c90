use mathlib.Core.Path.{refl}
use native.Mathlib.Omega.{arith}
use Rattle.base.specs.Measure.{spaces}
use Rattle.words.specs.Extents.{counts_from}
use Rattle.uk.specs.Pool.{uk_pool}
use Rattle.uk.proofs.measure.Goals as goal

pub returns : goal.returns
unfolding spaces counts_from uk_pool
returns c = c.measure.ensures uk_pool (record { within = omega arith; none = refl; others = refl })
