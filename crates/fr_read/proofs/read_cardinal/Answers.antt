-- `fr_read::read_cardinal` meets its contract: the groups are those guessed behind the sign.
-- Assumes nothing.
use mathlib.Core.Path.{◌∙◌}
use Rattle.settings.specs.Chosen.{french_numbers_of}
use Rattle.settings.proofs.Chosen.{french_settings_within}
use Rattle.fr_read.proofs.Decided.{behind, read}
use Rattle.fr_read.proofs.read_cardinal.Goals as goal

pub returns : goal.returns
returns c =
    let S = french_numbers_of c.args.settings in
    let number = c.guess.new.number in
    let g = behind c.args.s.now number.groups c.unwrap_or-start.result c.guess.ensures (rw c.unwrap_or-start.ensures c.sign-minus.ensures.passed.0) in
    rw (c.sign_read.ensures, c.is_some-2.ensures, ← c.is_some.ensures)
    (read S (french_settings_within c.args.settings) c.args.s.now c.is_some.result (c.is_some.ensures ∙ c.sign-minus.ensures.found) number g c.is_cardinal-stands.result c.is_cardinal-stands.ensures)
