use mathlib.Core.Path.{refl}
use native.Mathlib.Omega.{arith}
use Rattle.base.specs.Measure.{spaces}
use Rattle.words.specs.Extents.{counts_from}
use Rattle.fr.specs.Pool.{fr_pool}
use Rattle.fr.proofs.measure.Goals as goal

pub returns : goal.returns
unfolding spaces counts_from fr_pool
returns c = c.measure.ensures fr_pool (record { within = omega arith; none = refl; others = refl })
