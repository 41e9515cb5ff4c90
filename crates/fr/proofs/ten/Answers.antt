use Rattle.fr.proofs.Tables.{ten_word_lem, twenties_word}
use Rattle.fr.proofs.ten.Goals as goal

pub returns-then-four_twenties : goal.returns-then-four_twenties
returns-then-four_twenties c = twenties_word _ _ (cc)

pub returns : goal.returns
returns c = ten_word_lem c.args.settings _ c.requires.0 c.requires.1 c.requires.2 (cc)
