-- `words::extents::Spaces::extent_at` meets its contract.
use Rattle.std.proofs.Common.{refl, arith}
use Rattle.words.proofs.Counts.{unspaced_extent, placed_extent}
use Rattle.words.proofs.extents.Spaces.extent_at.Goals as goal

pub returns-then-start-length : goal.returns-then-start-length
returns-then-start-length c = ((λ pool k. unspaced_extent k _ c.args.place c.if-start-length.true refl refl), omega arith, omega arith)

pub returns : goal.returns
returns c =
    let x = c.between.ensures in
    ((λ pool k. placed_extent k _ c.args.place _ _ c.min.ensures c.min-end.ensures (x.0 pool k)), x.1, omega (arith, x.2))
