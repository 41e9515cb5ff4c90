-- `figures::value_of` meets its contract: a digit more makes the value ten times as large, and more by what the digit means.
use Rattle.std.proofs.Common.{◌+◌, refl, arith}
use Rattle.figures.proofs.Laws.Digits.{digits_at, digit_low, value_turn, value_part}
use Rattle.figures.proofs.value_of.Goals as goal

pub overflow_mul-n : goal.overflow_mul-n
overflow_mul-n c =
    let i = c.loop-b.b-index in
    omega (arith, value_turn c.args.s.now i (i + 1) refl c.loop-b-test.true, value_part c.args.s.now (i + 1))

pub overflow_sub-b : goal.overflow_sub-b
overflow_sub-b c = digit_low _ (digits_at c.args.s.now c.loop-b.b-index c.requires.s_value c.loop-b-test.true)

pub overflow_add-n : goal.overflow_add-n
overflow_add-n c =
    let i = c.loop-b.b-index in
    omega (arith, value_turn c.args.s.now i (i + 1) refl c.loop-b-test.true, value_part c.args.s.now (i + 1))

pub loop-b-preserved : goal.loop-b-preserved
loop-b-preserved c =
    let i = c.loop-b.b-index in
    omega (arith, value_turn c.args.s.now i (i + 1) refl c.loop-b-test.true)
