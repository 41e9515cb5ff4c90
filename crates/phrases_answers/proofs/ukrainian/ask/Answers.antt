-- `phrases_answers::ukrainian::ask` meets its contract.
-- Assumes nothing.
use Rattle.std.proofs.Common.{◌≡◌, refl, sym, ◌∙◌}
use Rattle.uk_calls.specs.UkCardinals.{uk_to_cardinal}
use Rattle.uk_ordinal_calls.specs.UkOrdinals.{uk_to_ordinal, uk_to_ordinal_num, year_text}
use Rattle.uk_money_calls.specs.MoneyCalls.{uk_to_currency}
use Rattle.phrases_forms.specs.declared.Language.TheVariants.{Ukrainian}
use Rattle.phrases_answers.specs.Answers.{line_settings}
use Rattle.phrases_answers.specs.Left.{ukrainian_left, settled_left}
use Rattle.phrases_answers.proofs.Asks.{told_text, untold_text, told_code, no_code, untold_code, within_uk, settled_uk, unsettled_uk, uk_card, uk_ord, uk_num, uk_year, uk_money}
use Rattle.phrases_answers.proofs.ukrainian.ask.Goals.{Else-is_err}
use Rattle.phrases_answers.proofs.ukrainian.ask.Goals as goal

settled : (c : Else-is_err) → let w = c.ukrainian-gender.result in settled_left c.args.kind Ukrainian c.args.s.now ≡ ukrainian_left c.args.kind (line_settings w.a w.b w.c) w.rest.now
settled c = settled_uk c.args.kind c.args.s.now _ _ _ c.new.result _ c.ukrainian-gender.ensures.a_value c.ukrainian-gender.ensures.s_value c.new.ensures (sym c.if-is_err.ensures.value)

pub returns-then-is_err : goal.returns-then-is_err
returns-then-is_err c = (unsettled_uk c.args.kind c.args.s.now _ _ _ c.new.result c.ukrainian-gender.ensures.a_value c.new.ensures (sym c.if-is_err.ensures.value), refl)

pub year-requires : goal.year-requires
year-requires c = let w = c.ukrainian-gender.result in within_uk c.new.result (line_settings w.a w.b w.c) c.new.ensures (sym c.if-is_err.ensures.value)

pub returns-in_err-text_of-in-Card : goal.returns-in_err-text_of-in-Card
returns-in_err-text_of-in-Card c =
    let w = c.ukrainian-gender.result in
    let S = line_settings w.a w.b w.c in
    let e = settled (goal.at.returns-in_err-text_of-in-Card c).Else-is_err ∙ uk_card _ S _ c.in-Card.is in
    untold_text (uk_to_cardinal S) w.rest.now _ _ e _ c.from_residual.ensures c.in_err-text_of-in-Card.ensures

pub returns-in_ok-text_of-in-Card : goal.returns-in_ok-text_of-in-Card
returns-in_ok-text_of-in-Card c =
    let w = c.ukrainian-gender.result in
    let S = line_settings w.a w.b w.c in
    let e = settled (goal.at.returns-in_ok-text_of-in-Card c).Else-is_err ∙ uk_card _ S _ c.in-Card.is in
    told_text (uk_to_cardinal S) w.rest.now _ _ e _ _ _ c.in_ok-text_of-in-Card.ensures c.to_cardinal.ensures.answers c.to_cardinal.ensures.length_le_phrase_room

pub returns-in_err-text_of-in-Ord : goal.returns-in_err-text_of-in-Ord
returns-in_err-text_of-in-Ord c =
    let w = c.ukrainian-gender.result in
    let S = line_settings w.a w.b w.c in
    let e = settled (goal.at.returns-in_err-text_of-in-Ord c).Else-is_err ∙ uk_ord _ S _ c.in-Ord.is in
    untold_text (uk_to_ordinal S) w.rest.now _ _ e _ c.from_residual-in_err-text_of-in-Ord.ensures c.in_err-text_of-in-Ord.ensures

pub returns-in_ok-text_of-in-Ord : goal.returns-in_ok-text_of-in-Ord
returns-in_ok-text_of-in-Ord c =
    let w = c.ukrainian-gender.result in
    let S = line_settings w.a w.b w.c in
    let e = settled (goal.at.returns-in_ok-text_of-in-Ord c).Else-is_err ∙ uk_ord _ S _ c.in-Ord.is in
    told_text (uk_to_ordinal S) w.rest.now _ _ e _ _ _ c.in_ok-text_of-in-Ord.ensures c.to_ordinal.ensures.answers c.to_ordinal.ensures.length_le_phrase_room

pub returns-in_err-text_of-in-Num : goal.returns-in_err-text_of-in-Num
returns-in_err-text_of-in-Num c =
    let w = c.ukrainian-gender.result in
    let S = line_settings w.a w.b w.c in
    let e = settled (goal.at.returns-in_err-text_of-in-Num c).Else-is_err ∙ uk_num _ S _ c.in-Num.is in
    untold_text (uk_to_ordinal_num S) w.rest.now _ _ e _ c.from_residual-in_err-text_of-in-Num.ensures c.in_err-text_of-in-Num.ensures

pub returns-in_ok-text_of-in-Num : goal.returns-in_ok-text_of-in-Num
returns-in_ok-text_of-in-Num c =
    let w = c.ukrainian-gender.result in
    let S = line_settings w.a w.b w.c in
    let e = settled (goal.at.returns-in_ok-text_of-in-Num c).Else-is_err ∙ uk_num _ S _ c.in-Num.is in
    told_text (uk_to_ordinal_num S) w.rest.now _ _ e _ _ _ c.in_ok-text_of-in-Num.ensures c.to_ordinal_num.ensures.answers c.to_ordinal_num.ensures.length_le_phrase_room

pub returns-in_err-text_of-in-Year : goal.returns-in_err-text_of-in-Year
returns-in_err-text_of-in-Year c =
    let w = c.ukrainian-gender.result in
    let S = line_settings w.a w.b w.c in
    let e = settled (goal.at.returns-in_err-text_of-in-Year c).Else-is_err ∙ uk_year _ S _ c.in-Year.is in
    untold_text (year_text S) w.rest.now _ _ e _ c.from_residual-in_err-text_of-in-Year.ensures c.in_err-text_of-in-Year.ensures

pub returns-in_ok-text_of-in-Year : goal.returns-in_ok-text_of-in-Year
returns-in_ok-text_of-in-Year c =
    let w = c.ukrainian-gender.result in
    let S = line_settings w.a w.b w.c in
    let e = settled (goal.at.returns-in_ok-text_of-in-Year c).Else-is_err ∙ uk_year _ S _ c.in-Year.is in
    told_text (year_text S) w.rest.now _ _ e _ _ _ c.in_ok-text_of-in-Year.ensures c.year.ensures.answers c.year.ensures.length_le_phrase_room

pub returns-then-not-is_run : goal.returns-then-not-is_run
returns-then-not-is_run c =
    let w = c.ukrainian-gender.result in
    let S = line_settings w.a w.b w.c in
    let k = c.cut.result in
    let e = settled (goal.at.returns-then-not-is_run c).Else-is_err ∙ uk_money _ S _ _ _ c.cut.ensures c.in-Money.is in
    (no_code (uk_to_currency S) k.0.now k.1.now _ c.args.out.now e (sym c.is_run.ensures ∙ c.if-not-is_run.true), refl)

pub returns-in_err-text-in-Money : goal.returns-in_err-text-in-Money
returns-in_err-text-in-Money c =
    let w = c.ukrainian-gender.result in
    let S = line_settings w.a w.b w.c in
    let k = c.cut.result in
    let e = settled (goal.at.returns-in_err-text-in-Money c).Else-is_err ∙ uk_money _ S _ _ _ c.cut.ensures c.in-Money.is in
    untold_code (uk_to_currency S) k.0.now k.1.now _ _ e _ c.from_residual-in_err-text-in-Money.ensures c.in_err-text-in-Money.ensures

pub returns-in_ok-text-in-Money : goal.returns-in_ok-text-in-Money
returns-in_ok-text-in-Money c =
    let w = c.ukrainian-gender.result in
    let S = line_settings w.a w.b w.c in
    let k = c.cut.result in
    let e = settled (goal.at.returns-in_ok-text-in-Money c).Else-is_err ∙ uk_money _ S _ _ _ c.cut.ensures c.in-Money.is in
    told_code (uk_to_currency S) k.0.now k.1.now _ _ e _ _ _ (sym c.is_run.ensures ∙ c.if-not-is_run.false) c.in_ok-text-in-Money.ensures c.to_currency.ensures.answers c.to_currency.ensures.length_le_phrase_room
