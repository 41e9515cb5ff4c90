-- `fr_read::guess` meets its contract.
-- Assumes nothing.
use mathlib.Core.Path.{◌∙◌}
use mathlib.Core.List.{append-nil}
use native.Mathlib.Omega.{arith}
use Rattle.fr_read.specs.Reading.{guessed}
use Rattle.fr_read.proofs.Bounds.{guessed_groups}
use Rattle.fr_read.proofs.guess.Goals as goal

pub of_groups-requires : goal.of_groups-requires
unfolding guessed
of_groups-requires c =
    let g = c.groups-orders.ensures in
    let e = g.out_after ∙ append-nil _ in
    (omega arith, (omega arith, (rw e (guessed_groups _).1, (g.zero_from.1, rw e g.zero_from.0))))

pub returns : goal.returns
unfolding guessed
returns c = c.of_groups.ensures ∙ c.groups-orders.ensures.out_after ∙ append-nil _
