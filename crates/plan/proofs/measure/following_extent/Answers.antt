-- One piece more.
-- Assumes nothing.
use Rattle.std.proofs.Common.{refl, arith}
use Rattle.words.proofs.Counts.{extends_append}
use Rattle.plan.proofs.Laws.{next}
use Rattle.plan.proofs.Measuring.{none_extends}
use Rattle.plan.proofs.measure.following_extent.Goals as goal

pub loop-code-init : goal.loop-code-init
loop-code-init c = record { told = λ pool k. none_extends pool c.args.plan.now; few = omega arith; short = omega arith }

pub loop-code-preserved : goal.loop-code-preserved
loop-code-preserved c = record {
  told = λ pool k.
      rw (next pool c.args.plan.now c.loop-code.code-index c.loop-code-test.true) (extends_append _ (c.loop-code.invariant.told pool k) (c.piece_extent-piece.ensures.told pool k) refl refl);
  few = omega arith;
  short = omega arith;
}
