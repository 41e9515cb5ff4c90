-- `uk_calls::from_cardinal`: what is read is answered.
-- Assumes nothing.
use Rattle.uk_calls.proofs.Read.{cardinal_read}
use Rattle.uk_calls.proofs.from_cardinal.Goals as goal

pub returns : goal.returns
returns c = cardinal_read _ _ _ _ _ _ _ c.in_ok-settings.ensures c.read_cardinal.ensures c.put_read.ensures
