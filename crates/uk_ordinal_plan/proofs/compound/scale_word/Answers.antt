-- `uk_ordinal_plan::compound::scale_word` meets its contract.
-- Assumes nothing.
use Rattle.std.proofs.Common.{◌/◌, ◌%◌, sym, ap, ◌∙◌, Bool, ◌&&◌, eqb, [], ◌∷◌, arith}
use Rattle.base.specs.Join.{Word}
use Rattle.settings.specs.Chosen.{numbers_of}
use Rattle.words.specs.Part.{part}
use Rattle.uk.specs.Pool.{uk_pool}
use Rattle.uk.specs.Rules.{num_words}
use Rattle.uk_ordinal.specs.Ordinal.{compound_digits}
use Rattle.uk_ordinal_plan.proofs.Laws.{respeak, run_then, run_word}
use Rattle.uk_ordinal_plan.proofs.Cases.{num_some, bare_word, counted_word, joined_some}
use Rattle.uk_ordinal_plan.proofs.compound.scale_word.Goals as goal

pub returns-then-is_bare : goal.returns-then-is_bare
returns-then-is_bare g c rest alone =
    let a = c.args in
    let bare = ap (λ (b : Bool). b && eqb a.g 1) (sym alone) ∙ sym c.is_bare.ensures ∙ c.if-is_bare.true in
    respeak 6 (run_word c.scale.ensures (joined_some [] _ _)) (omega arith)
    (ap (λ (w : Word). w ∷ []) (bare_word (numbers_of a.settings) (part uk_pool a.ending) rest a.order a.g bare))

pub returns-else-is_bare : goal.returns-else-is_bare
returns-else-is_bare g c rest alone =
    let a = c.args in
    let W = compound_digits (numbers_of a.settings) in
    let counted = ap (λ (b : Bool). b && eqb a.g 1) (sym alone) ∙ sym c.is_bare.ensures ∙ c.if-is_bare.false in
    let some = num_some W (a.g / 100 % 10) (a.g / 10 % 10) (a.g % 10) (omega arith) in
    respeak 6
    (run_word (run_then 6 c.count.ensures c.scale-else-is_bare.ensures (omega arith) some) (joined_some (num_words W (a.g / 100 % 10) (a.g / 10 % 10) (a.g % 10)) _ _)) (omega arith)
    (ap (λ (w : Word). w ∷ []) (counted_word (numbers_of a.settings) (part uk_pool a.ending) rest a.order a.g counted))
