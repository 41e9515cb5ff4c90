use Rattle.fr.proofs.Tables.{plain_unit, une_unit}
use Rattle.fr.proofs.unit.Goals as goal

pub returns-then-is_une : goal.returns-then-is_une
returns-then-is_une c = une_unit _ _ _ (cc)

pub returns : goal.returns
returns c = plain_unit _ _ _ c.requires.0 c.requires.1 (cc)
