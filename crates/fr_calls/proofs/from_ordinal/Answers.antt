-- `fr_calls::from_ordinal`: what is read is answered.
-- Assumes nothing.
use Rattle.fr_calls.proofs.Read.{ordinal_read}
use Rattle.fr_calls.proofs.from_ordinal.Goals as goal

pub returns : goal.returns
returns c = ordinal_read _ _ _ _ _ _ _ c.in_ok-settings.ensures c.put_lent.ensures c.read_ordinal-minus.ensures
