use Rattle.fr.proofs.Tables.{hundred_word}
use Rattle.fr.proofs.hundred.Goals as goal

pub returns : goal.returns
returns c = hundred_word c.args.settings _ c.requires.0 c.requires.1
