-- `phrases_answers::ask` meets its contract.
-- Assumes nothing.
use Rattle.std.proofs.Common.{refl, sym, ◌∙◌}
use Rattle.phrases_answers.proofs.Asks.{untold, both_known, no_kind, no_language, asked_as}
use Rattle.phrases_answers.proofs.ask.Goals as goal

pub returns-in_err-kind : goal.returns-in_err-kind
returns-in_err-kind c =
    untold _ _ _ c.from_residual.ensures (no_kind c.args.s.now _ _ _ _ c.cut.ensures (refl, refl) (sym c.in_err-kind.was ∙ c.kind_of.ensures))

pub returns-in_err-language_of : goal.returns-in_err-language_of
returns-in_err-language_of c =
    untold _ _ _ c.from_residual-in_err-language_of.ensures (no_language c.args.s.now _ _ _ _ c.cut.ensures c.cut-2.ensures _ (sym c.in_ok-kind.was ∙ c.kind_of.ensures) (sym c.in_err-language_of.was ∙ c.language_of.ensures))

pub returns-in-Ukrainian : goal.returns-in-Ukrainian
returns-in-Ukrainian c =
    let e = both_known c.args.s.now _ _ _ _ c.cut.ensures c.cut-2.ensures _ _ _ (sym c.in_ok-kind.was ∙ c.kind_of.ensures) (sym c.in_ok-language_of.was ∙ c.language_of.ensures) c.in-Ukrainian.is in
    asked_as _ _ _ _ _ e c.ask.ensures

pub returns-in-French : goal.returns-in-French
returns-in-French c =
    let e = both_known c.args.s.now _ _ _ _ c.cut.ensures c.cut-2.ensures _ _ _ (sym c.in_ok-kind.was ∙ c.kind_of.ensures) (sym c.in_ok-language_of.was ∙ c.language_of.ensures) c.in-French.is in
    asked_as _ _ _ _ _ e c.ask-in-French.ensures
