-- `uk_ordinal_calls::reading::from_year`: what is read is answered.
-- Assumes nothing.
use Rattle.uk_ordinal_calls.proofs.Read.{year_read}
use Rattle.uk_ordinal_calls.proofs.reading.from_year.Goals as goal

pub returns : goal.returns
returns c = year_read _ _ _ _ _ _ _ c.in_ok-settings.ensures c.put_read.ensures c.read_year.ensures
