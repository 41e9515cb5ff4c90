-- `words::same_long` meets its contract.
use Rattle.std.proofs.Common.{◌≡◌, ◌+◌, ◌-◌, ◌*◌, length, arith}
use Rattle.words.proofs.Pieces.{further, apart, last_on}
use Rattle.words.proofs.same_long.Goals as goal

pub returns-then-not-same_part : goal.returns-then-not-same_part
returns-then-not-same_part c = apart c.args.w.now c.args.s.now (c.loop-turn.turn * 8) 8 (omega arith) (c.same_part.ensures.fails c.if-not-same_part.true)

pub loop-turn-preserved : goal.loop-turn-preserved
loop-turn-preserved c =
    let i = c.loop-turn.turn * 8 in
    let p : (c.loop-turn.turn + 1) * 8 ≡ i + 8 = omega arith in
    rw p (further c.args.w.now c.args.s.now i i 8 c.loop-turn.invariant (c.same_part.ensures.holds c.if-not-same_part.false) (omega arith))

pub returns : goal.returns
returns c =
    let w = c.args.w.now in
    last_on w c.args.s.now (c.loop-turn.turn * 8) (length w - 8) 8 _ c.loop-turn.invariant (omega arith) (omega arith) c.same_part-2.ensures
