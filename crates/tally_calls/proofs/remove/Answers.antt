-- What was decided can be stored, and is what the call answers and stores.
-- Assumes nothing.
use Rattle.std.proofs.Common.{◌∙◌}
use Rattle.tally_calls.proofs.Settling.{tallies, settled, storable}
use Rattle.tally_calls.proofs.remove.Goals as goal

pub settle-requires : goal.settle-requires
settle-requires c = storable c.remove_from-change.ensures

pub returns-clause-tallies : goal.returns-clause-tallies
returns-clause-tallies c = rw c.from.ensures (tallies c.remove_from-change.ensures)

pub returns-clause-tally_after : goal.returns-clause-tally_after
returns-clause-tally_after c = c.settle.ensures ∙ settled c.remove_from-change.ensures
