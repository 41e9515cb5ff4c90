-- `uk_money_calls::measure_currency`: its text's refusal, and what is spelled of an admitted one.
-- Assumes nothing.
use Rattle.std.proofs.Common.{arith}
use Rattle.std.proofs.lemmas.Grind.{common_steps}
use Rattle.base.proofs.Refusals.{measures_refused}
use Rattle.settings.proofs.Handed.{chosen_within}
use Rattle.uk_money.proofs.Coded.{found_code}
use Rattle.uk_money_calls.proofs.Texts.{plain_whole, whole_few, whole_orders, hundredths_small}
use Rattle.uk_money_calls.proofs.measure_currency.Goals as goal

pub returns-in_err-judge_amount : goal.returns-in_err-judge_amount
returns-in_err-judge_amount c =
    grind (arith, common_steps, measures_refused, chosen_within _ _ c.in_ok-settings.ensures, found_code _ _ c.code_of.ensures _ c.in_ok-currency.ensures.ok_part)

pub of_digits-number-requires : goal.of_digits-number-requires
of_digits-number-requires c = grind (arith, common_steps, plain_whole, whole_few)

pub value_of-hundredths-requires-clause-s_bound : goal.value_of-hundredths-requires-clause-s_bound
value_of-hundredths-requires-clause-s_bound c = grind (arith, common_steps, hundredths_small)

pub overflow_cast-hundredths : goal.overflow_cast-hundredths
overflow_cast-hundredths c = grind (arith, common_steps, hundredths_small)

pub plan_money-requires : goal.plan_money-requires
plan_money-requires c = grind (arith, common_steps, whole_orders, hundredths_small)
