-- The separator, if any, and then the text.
-- Assumes nothing.
use Rattle.std.proofs.Common.{sym, ◌∙◌, ◌/◌, arith}
use Rattle.words.proofs.Parts.{part_short}
use Rattle.plan.proofs.Standing.{passed_some}
use Rattle.plan.proofs.pass_piece.Goals as goal

pub overflow_add-result : goal.overflow_add-result
overflow_add-result c =
    let passed = passed_some _ _ _ (sym c.pass-in-len1-up.ensures ∙ c.in_ok-n-in-len1-up.was) in
    omega (arith, passed.1, part_short c.args.pool.now (c.args.code / 256))
