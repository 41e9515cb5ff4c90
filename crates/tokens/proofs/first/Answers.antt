-- `tokens::first` meets its contract.
use Rattle.std.proofs.Common.{◌≡◌, ◌+◌, ◌*◌, sym, ◌∙◌, arith}
use Rattle.base.proofs.Numbers.{eight_num_at}
use Rattle.tokens.specs.Turns.{Ends}
use Rattle.tokens.proofs.Turns.{begun_none, begun_on, within, took}
use Rattle.tokens.proofs.first.Goals as goal

pub loop-turn-init : goal.loop-turn-init
loop-turn-init c = (omega arith, begun_none c.args.s.now)

pub end-requires : goal.end-requires
end-requires c =
    let s = c.args.s.now in
    let i = c.loop-turn.turn in
    let w = eight_num_at s _ i _ c.as_chunks.ensures.front (omega arith) c.from_le_bytes-w.ensures in
    let e : Ends c.from_le_bytes-w.result = λ z. c.if-low-ne0.true (c.low.ensures ∙ z) in
    (c.loop-turn.invariant.0, e, within s (λ j. (c.type_inv.s j).fits) (i * 8) c.loop-turn.k _ c.loop-turn.invariant.1 w e (omega arith))

pub returns-then-low-ne0 : goal.returns-then-low-ne0
returns-then-low-ne0 c =
    let s = c.args.s.now in
    let i = c.loop-turn.turn in
    let w = eight_num_at s _ i _ c.as_chunks.ensures.front (omega arith) c.from_le_bytes-w.ensures in
    let e : Ends c.from_le_bytes-w.result = λ z. c.if-low-ne0.true (c.low.ensures ∙ z) in
    took s (λ j. (c.type_inv.s j).fits) (i * 8) c.loop-turn.k _ c.loop-turn.invariant.1 w e (omega arith) _ _ c.end.ensures.0 c.end.ensures.1

pub loop-turn-preserved : goal.loop-turn-preserved
loop-turn-preserved c =
    let s = c.args.s.now in
    let i = c.loop-turn.turn in
    let w = eight_num_at s _ i _ c.as_chunks.ensures.front (omega arith) c.from_le_bytes-w.ensures in
    let n : (i + 1) * 8 ≡ i * 8 + 8 = omega arith in
    rw n (omega arith, begun_on s (λ j. (c.type_inv.s j).fits) (i * 8) c.loop-turn.k _ c.loop-turn.invariant.1 w (omega arith) (sym c.low.ensures ∙ c.if-low-ne0.false))
