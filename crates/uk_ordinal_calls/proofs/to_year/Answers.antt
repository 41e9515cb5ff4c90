-- `uk_ordinal_calls::to_year`: what its plan says is the year.
-- Assumes nothing.
use Rattle.std.proofs.Common.{◌≡◌, arith}
use Rattle.std.proofs.lemmas.Grind.{common_steps}
use Rattle.base.proofs.Replies.{heard}
use Rattle.plan.specs.Phrase.{phrase_of}
use Rattle.plan.specs.Plan.{pieces}
use Rattle.uk.specs.Pool.{uk_pool}
use Rattle.settings.specs.Chosen.{numbers_of}
use Rattle.settings.proofs.Handed.{handed}
use Rattle.uk_ordinal_calls.specs.UkOrdinals.{uk_to_year}
use Rattle.uk_ordinal_calls.proofs.Admitted.{year_laws}
use Rattle.uk_ordinal_calls.proofs.to_year.Goals as goal

pub returns-clause-answers : goal.returns-clause-answers
returns-clause-answers c =
    let said : phrase_of (pieces uk_pool c.codes.result.now) ≡ (uk_to_year (numbers_of c.in_ok-settings.settings) c.args.year).phrase = grind (arith, year_laws) in
    grind (arith, common_steps, handed, heard _ _ _ said c.speak.ensures.answers)
