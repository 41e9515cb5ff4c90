-- The separator counts as a byte, and as a space if it is one.
-- Assumes nothing.
use Rattle.std.proofs.Common.{rules}
use Rattle.plan.proofs.Measuring.{piece_extends}
use Rattle.plan.proofs.measure.piece_extent.Goals as goal

pub returns-clause-told : goal.returns-clause-told
returns-clause-told c pool k = piece_extends pool c.args.code _ (c.extent_at-text.ensures.0 pool k) (cc) (search rules)
