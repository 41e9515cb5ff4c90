-- `uk_ordinal_read::is_phrase` meets its contract: the plan stands where its words are the text.
-- Assumes nothing.
use Rattle.uk_ordinal_read.proofs.is_phrase.Goals as goal

pub returns : goal.returns
returns c = rw (c.codes.ensures, c.plan_year.ensures.1) at c.stands.ensures
