-- `words::part` meets its contract: the text is all there, or ends with the pool.
use Rattle.std.proofs.Common.{ap, arith, length}
use Rattle.words.proofs.Parts.{part_short, inside, cut}
use Rattle.words.proofs.part.Goals as goal

pub returns-then-pool-e : goal.returns-then-pool-e
returns-then-pool-e c =
    let e = cut c.args.pool.now c.args.place _ c.min.ensures c.if-pool-e.true in
    (e, omega (arith, ap length e, part_short c.args.pool.now c.args.place))

pub returns : goal.returns
returns c =
    let e = inside c.args.pool.now c.args.place in
    (e, omega (arith, ap length e, part_short c.args.pool.now c.args.place))
