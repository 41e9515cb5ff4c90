use Rattle.fr.proofs.Tables.{teen_word}
use Rattle.fr.proofs.teen.Goals as goal

pub returns : goal.returns
returns c = teen_word _ c.requires
