-- `fr_plan::join` meets its contract: the joiner is a byte, and not 0.
-- Assumes nothing.
use Prim.Native.Nat.{◌<◌}
use mathlib.Core.Bool.{Bool, true, false, cond}
use native.Mathlib.Omega.{arith}
use Rattle.base.specs.Signs.{space, hyphen}
use Rattle.settings.specs.Settings.{Settings}
use Rattle.fr.specs.Rules.{is_reformed, french_joiner}
use Rattle.settings.specs.Chosen.{french_numbers_of}
use Rattle.fr_plan.proofs.Appends.{one_word}
use Rattle.fr_plan.proofs.join.Goals as goal

joiner-byte : (S : Settings) → (0 < french_joiner S) × (french_joiner S < 256)
joiner-byte S = go (is_reformed S)
  where
    go : (t : Bool) → (0 < cond t hyphen space) × (cond t hyphen space < 256)
    go true = (omega arith, omega arith)
    go false = (omega arith, omega arith)

pub returns : goal.returns
returns c =
    let S = french_numbers_of c.args.settings in
    let b = joiner-byte S in
    one_word (french_joiner S) c.args.place (rw c.joiner.ensures at c.push.ensures) b.1 b.0 c.requires.0
