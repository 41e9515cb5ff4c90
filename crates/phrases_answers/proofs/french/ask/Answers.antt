-- `phrases_answers::french::ask` meets its contract.
-- Assumes nothing.
use Rattle.std.proofs.Common.{◌≡◌, refl, sym, ◌∙◌}
use Rattle.settings.specs.Settings.{french_settings}
use Rattle.fr_calls.specs.FrCalls.{fr_to_cardinal, fr_to_ordinal}
use Rattle.phrases_forms.specs.declared.Language.TheVariants.{French}
use Rattle.phrases_answers.specs.Left.{french_left, settled_left}
use Rattle.phrases_answers.proofs.Asks.{told_text, untold_text, settled_fr, unsettled_fr, fr_card, fr_ord, fr_none}
use Rattle.phrases_answers.proofs.french.ask.Goals.{Else-is_err}
use Rattle.phrases_answers.proofs.french.ask.Goals as goal

settled : (c : Else-is_err) → let w = c.french-w.result in settled_left c.args.kind French c.args.s.now ≡ french_left c.args.kind (french_settings w.a w.b w.c) w.rest.now
settled c = settled_fr c.args.kind c.args.s.now _ _ _ c.new.result _ c.french-w.ensures.a_value c.french-w.ensures.s_value c.new.ensures (sym c.if-is_err.ensures.value)

pub returns-then-is_err : goal.returns-then-is_err
returns-then-is_err c = (unsettled_fr c.args.kind c.args.s.now _ _ _ c.new.result c.french-w.ensures.a_value c.new.ensures (sym c.if-is_err.ensures.value), refl)

pub returns-in_err-text_of-in-Card : goal.returns-in_err-text_of-in-Card
returns-in_err-text_of-in-Card c =
    let w = c.french-w.result in
    let S = french_settings w.a w.b w.c in
    let e = settled (goal.at.returns-in_err-text_of-in-Card c).Else-is_err ∙ fr_card _ S _ c.in-Card.is in
    untold_text (fr_to_cardinal S) w.rest.now _ _ e _ c.from_residual.ensures c.in_err-text_of-in-Card.ensures

pub returns-in_err-text_of-in-Ord : goal.returns-in_err-text_of-in-Ord
returns-in_err-text_of-in-Ord c =
    let w = c.french-w.result in
    let S = french_settings w.a w.b w.c in
    let e = settled (goal.at.returns-in_err-text_of-in-Ord c).Else-is_err ∙ fr_ord _ S _ c.in-Ord.is in
    untold_text (fr_to_ordinal S) w.rest.now _ _ e _ c.from_residual-in_err-text_of-in-Ord.ensures c.in_err-text_of-in-Ord.ensures

pub returns-in_ok-text_of-in-Card : goal.returns-in_ok-text_of-in-Card
returns-in_ok-text_of-in-Card c =
    let w = c.french-w.result in
    let S = french_settings w.a w.b w.c in
    let e = settled (goal.at.returns-in_ok-text_of-in-Card c).Else-is_err ∙ fr_card _ S _ c.in-Card.is in
    told_text (fr_to_cardinal S) w.rest.now _ _ e _ _ _ c.in_ok-text_of-in-Card.ensures c.to_cardinal.ensures.answers c.to_cardinal.ensures.length_le_phrase_room

pub returns-in_ok-text_of-in-Ord : goal.returns-in_ok-text_of-in-Ord
returns-in_ok-text_of-in-Ord c =
    let w = c.french-w.result in
    let S = french_settings w.a w.b w.c in
    let e = settled (goal.at.returns-in_ok-text_of-in-Ord c).Else-is_err ∙ fr_ord _ S _ c.in-Ord.is in
    told_text (fr_to_ordinal S) w.rest.now _ _ e _ _ _ c.in_ok-text_of-in-Ord.ensures c.to_ordinal.ensures.answers c.to_ordinal.ensures.length_le_phrase_room

pub returns-in-Num : goal.returns-in-Num
returns-in-Num c = (settled (goal.at.returns-in-Num c).Else-is_err ∙ fr_none _ _ _ c.in-Num.is, refl)
