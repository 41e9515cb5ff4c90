-- What was decided is what the preview answers.
-- Assumes nothing.
use Rattle.std.proofs.Common.{refl}
use Rattle.tally_calls.proofs.Settling.{tallies}
use Rattle.tally_previews.proofs.preview_add.Goals as goal

pub returns : goal.returns
returns c = record { reports = rw c.from.ensures (tallies c.add_to-change.ensures); unaltered = refl }
