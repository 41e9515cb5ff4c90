-- `uk_ordinal_plan::plain::plain_words` meets its contract.
-- Assumes nothing.
use Rattle.std.proofs.Common.{arith}
use Rattle.settings.specs.Chosen.{numbers_of}
use Rattle.words.specs.Part.{part}
use Rattle.plan.proofs.Tells.{tell}
use Rattle.uk.specs.Pool.{uk_pool}
use Rattle.uk_ordinal_plan.proofs.Laws.{told, respeak}
use Rattle.uk_ordinal_plan.proofs.Cases.{plain_more}
use Rattle.uk_ordinal_plan.proofs.plain.plain_words.Goals as goal

pub returns-else-g-eq0 : goal.returns-else-g-eq0
returns-else-g-eq0 g c =
    let a = c.args in
    respeak 4 (told (tell 4 (rw c.in_nominative.ensures at c.hundred_word.ensures) c.tail_words.ensures (omega arith))) (omega arith)
    (plain_more (numbers_of a.settings) (part uk_pool a.ending) a.g c.if-g-eq0.false)
