-- `fr_plan::plan_cardinal` meets its contract.
-- Assumes nothing.
use native.Mathlib.Omega.{arith}
use Rattle.settings.specs.Chosen.{french_numbers_of}
use Rattle.figures.specs.Groups.{total}
use Rattle.cardinals.specs.Cardinal.{cardinal_words, cardinal_phrase}
use Rattle.fr.specs.Rules.{french_joiner, french}
use Rattle.fr_plan.proofs.Appends.{whole_phrase}
use Rattle.fr_plan.proofs.plan_cardinal.Goals as goal

pub returns : goal.returns
unfolding cardinal_phrase french
returns c =
    let a = c.args in
    let S = french_numbers_of a.settings in
    (omega (arith, c.plan_words.ensures.near), whole_phrase (french_joiner S) (cardinal_words (french S) a.negative (total a.number.now.groups)) c.plan_words.ensures)
