-- A plan whose places are below the front's says the same of the front of the texts as of all.
-- Assumes nothing.
use Prim.Native.Nat.{ℕ}
use mathlib.Core.Path.{◌≡◌}
use mathlib.Core.List.{List}
use native.Mathlib.Omega.{arith}
use lib.ListN.{take}
use Rattle.plan.specs.Plan.{pieces, Below}
use Rattle.plan.proofs.Front.{front_pieces}
use Rattle.uk.specs.Pool.{uk_pool, front_size, front_places}

pub front_all : (plan : List ℕ) → Below front_places plan → pieces (take front_size uk_pool) plan ≡ pieces uk_pool plan
front_all plan b = front_pieces uk_pool front_size front_places (λ p h. omega arith) plan b
