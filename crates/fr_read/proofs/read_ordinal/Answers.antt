-- `fr_read::read_ordinal` meets its contract.
-- Assumes nothing.
use Rattle.settings.specs.Chosen.{french_numbers_of}
use Rattle.settings.proofs.Chosen.{french_settings_within}
use Rattle.fr_read.proofs.Decided.{read_nth}
use Rattle.fr_read.proofs.read_ordinal.Goals as goal

pub returns : goal.returns
returns c =
    rw c.sign_read.ensures
    (read_nth (french_numbers_of c.args.settings) (french_settings_within c.args.settings) c.args.s.now c.guess.new.number c.guess.ensures c.is_ordinal-stands.result c.is_ordinal-stands.ensures)
