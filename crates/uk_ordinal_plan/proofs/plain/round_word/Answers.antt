-- `uk_ordinal_plan::plain::round_word` meets its contract.
-- Assumes nothing.
use Rattle.std.proofs.Common.{sym, ap, ◌∙◌, refl, [], ◌∷◌, arith}
use Rattle.base.specs.Join.{Word}
use Rattle.settings.specs.Chosen.{numbers_of}
use Rattle.words.specs.Part.{part}
use Rattle.uk.specs.Pool.{uk_pool}
use Rattle.uk.specs.Ukrainian.{unit_form}
use Rattle.uk_ordinal.specs.Ordinal.{in_genitive}
use Rattle.uk_ordinal_plan.proofs.Laws.{run_one, run_more, run_word, told, respeak}
use Rattle.uk_ordinal_plan.proofs.Cases.{joined_some, counted_hundred, bare_hundred}
use Rattle.uk_ordinal_plan.proofs.plain.round_word.Goals as goal

pub returns-then-counts_hundreds : goal.returns-then-counts_hundreds
returns-then-counts_hundreds g c =
    let a = c.args in
    respeak 3
    (run_word
    (run_more 3 (run_more 2 (run_one {w = unit_form (in_genitive (numbers_of a.settings)) a.h} _ (omega arith) c.push.ensures (cc)) (run_one _ (omega arith) c.push-then-counts_hundreds.ensures c.hundred_base.ensures) (omega arith))
    (run_one _ (omega arith) c.push-then-counts_hundreds-2.ensures refl) (omega arith))
    (joined_some [] _ _)) (omega arith)
    (ap (λ (w : Word). w ∷ []) (counted_hundred (numbers_of a.settings) (part uk_pool a.ending) a.h (sym c.counts_hundreds.ensures ∙ c.if-counts_hundreds.true)))

pub returns-else-counts_hundreds : goal.returns-else-counts_hundreds
returns-else-counts_hundreds g c =
    let a = c.args in
    respeak 3 (told (c.push_ended.ensures uk_pool)) (omega arith)
    (ap (λ (w : Word). w ∷ []) (rw c.hundred_base-else-counts_hundreds.ensures (bare_hundred (numbers_of a.settings) (part uk_pool a.ending) a.h (sym c.counts_hundreds.ensures ∙ c.if-counts_hundreds.false))))
