-- `uk_ordinal_calls::reading::school`: by the style of the settings.
-- Assumes nothing.
use Rattle.uk_ordinal_calls.proofs.Read.{chooses_school, chooses_ported}
use Rattle.uk_ordinal_calls.proofs.reading.school.Goals as goal

pub returns-in-School : goal.returns-in-School
returns-in-School c = chooses_school _ _ c.in_ok-settings.ensures c.in-School.is

pub returns-in-Ported : goal.returns-in-Ported
returns-in-Ported c = chooses_ported _ _ c.in_ok-settings.ensures c.in-Ported.is
