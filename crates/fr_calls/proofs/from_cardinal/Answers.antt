-- `fr_calls::from_cardinal`: what is read is answered.
-- Assumes nothing.
use Rattle.fr_calls.proofs.Read.{cardinal_read}
use Rattle.fr_calls.proofs.from_cardinal.Goals as goal

pub returns : goal.returns
returns c = cardinal_read _ _ _ _ _ _ _ c.in_ok-settings.ensures c.put_lent.ensures c.read_cardinal-minus.ensures
