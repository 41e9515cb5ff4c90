-- `uk_money_plan::say_form` meets its contract: a word of one piece.
-- Assumes nothing.
use Rattle.std.proofs.Common.{ap, [], ◌∷◌, arith}
use Rattle.base.specs.Join.{Word}
use Rattle.plan.proofs.Tells.{retell}
use Rattle.uk.specs.Pool.{uk_pool}
use Rattle.uk_money_plan.proofs.Forms.{only_ending, only_stem}
use Rattle.uk_money_plan.proofs.say_form.Goals as goal

pub returns-then-stem-eq0 : goal.returns-then-stem-eq0
returns-then-stem-eq0 g c =
    let a = c.args in
    retell 2 (c.push_word.ensures uk_pool) (omega arith) (ap (λ (w : Word). w ∷ []) (only_ending a.stem a.end c.if-stem-eq0.true))

pub returns-then-end-eq0 : goal.returns-then-end-eq0
returns-then-end-eq0 g c =
    let a = c.args in
    retell 2 (c.push_word-then-end-eq0.ensures uk_pool) (omega arith) (ap (λ (w : Word). w ∷ []) (only_stem a.stem a.end c.if-end-eq0.true))
