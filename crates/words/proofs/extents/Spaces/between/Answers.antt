-- `words::extents::Spaces::between` meets its contract.
use Rattle.std.proofs.Common.{refl, arith}
use Rattle.words.proofs.Counts.{counted_extent}
use Rattle.words.proofs.extents.Spaces.between.Goals as goal

pub returns : goal.returns
returns c =
    let e = c.before-2.ensures in
    let b = c.before-3.ensures in
    ((λ pool k. counted_extent k _ c.args.start c.args.end c.before-3.result c.before-2.result c.requires.0 c.requires.1 (b.0 pool k) (e.0 pool k) c.saturating_sub.ensures refl), omega (arith, e.1), refl)
