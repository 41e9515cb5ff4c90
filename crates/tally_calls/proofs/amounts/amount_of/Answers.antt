-- The whole part's digits and those of the hundredths are small enough for their types.
-- Assumes nothing.
use Rattle.std.proofs.Common.{◌≡◌, lit<, lt_trans, refl, ap, ◌∙◌, arith}
use Rattle.figures.specs.Text.{value, unsigned}
use Rattle.figures.specs.Money.{hundredths_of, whole_text}
use Rattle.figures.proofs.Laws.Plain.{plain_digits}
use Rattle.uk_money_calls.proofs.Texts.{plain_whole, hundredths_small}
use Rattle.tally_calls.proofs.amounts.amount_of.Goals as goal

-- the digits of the whole part
whole_is : (c : goal.After-after_sign) → c.after_sign.result.now ≡ unsigned (whole_text c.args.text.now)
whole_is c = c.after_sign.ensures ∙ ap unsigned c.whole_part.ensures

pub value_of-whole-requires-clause-s_value : goal.value_of-whole-requires-clause-s_value
value_of-whole-requires-clause-s_value c = plain_digits c.after_sign.result.now (rw (whole_is c) (plain_whole c.args.text.now c.requires))

pub value_of-hundredths-requires-clause-s_bound : goal.value_of-hundredths-requires-clause-s_bound
value_of-hundredths-requires-clause-s_bound c = rw c.hundredths_part.ensures (lt_trans (hundredths_small c.args.text.now c.requires) (lit< tt))

-- the hundredths are the text's
part_is : (c : goal.After-value_of-hundredths) → c.value_of-hundredths.result ≡ hundredths_of c.args.text.now
part_is c = c.value_of-hundredths.ensures ∙ ap value c.hundredths_part.ensures

pub overflow_cast-hundredths : goal.overflow_cast-hundredths
overflow_cast-hundredths c = omega (arith, part_is c, hundredths_small c.args.text.now c.requires)

pub returns : goal.returns
returns c = (refl, c.value_of-whole.ensures ∙ ap value (c.after_sign.ensures ∙ ap unsigned c.whole_part.ensures), part_is c, omega (arith, part_is c, hundredths_small c.args.text.now c.requires))
