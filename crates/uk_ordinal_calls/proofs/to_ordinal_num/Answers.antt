-- `uk_ordinal_calls::to_ordinal_num`: an admitted text's digits.
-- Assumes nothing.
use Rattle.std.proofs.Common.{arith}
use Rattle.std.proofs.lemmas.Grind.{common_steps}
use Rattle.uk_ordinal_calls.proofs.Admitted.{digit_ordinal_digits}
use Rattle.uk_ordinal_calls.proofs.to_ordinal_num.Goals as goal

pub say-requires : goal.say-requires
say-requires c = digit_ordinal_digits c.args.text.now (grind (arith, common_steps))
