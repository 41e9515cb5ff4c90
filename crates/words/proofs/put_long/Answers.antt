-- `words::put_long` meets its contract: so many times eight bytes are written, and then the last eight.
use Rattle.std.proofs.Common.{refl, ◌∙◌, arith}
use Rattle.words.proofs.Pieces.{Upto, eight_more, last_eight}
use Rattle.words.proofs.put_long.Goals as goal
use Rattle.words.proofs.put_long.Goals.{then-n-gt16+then-n-gt24+then-n-gt32, then-n-gt16+then-n-gt24+else-n-gt32, then-n-gt16+else-n-gt24, else-n-gt16}

pub returns : goal.returns
returns c =
    let t = c.args.w.now in
    let xs = c.args.out.now in
    let e8 : Upto t xs c.move_part.new.out 8 = eight_more t xs xs _ 0 refl c.move_part.ensures (omega arith) in
    elim c.if-n-gt16.branch [
      | then-n-gt16+then-n-gt24+then-n-gt32 w ↦
          let e16 = eight_more t xs _ _ 8 e8 w.move_part-then-n-gt16.ensures (omega arith) in
          let e24 = eight_more t xs _ _ 16 e16 w.move_part-then-n-gt24.ensures (omega arith) in
          let e32 = eight_more t xs _ _ 24 e24 w.move_part-then-n-gt32.ensures (omega arith) in
          last_eight t xs _ _ 32 (w.out-is ∙ e32) c.move_part-2.ensures (omega arith) (omega arith) (omega arith)
      | then-n-gt16+then-n-gt24+else-n-gt32 w ↦
          let e16 = eight_more t xs _ _ 8 e8 w.move_part-then-n-gt16.ensures (omega arith) in
          let e24 = eight_more t xs _ _ 16 e16 w.move_part-then-n-gt24.ensures (omega arith) in
          last_eight t xs _ _ 24 (w.out-is ∙ e24) c.move_part-2.ensures (omega arith) (omega arith) (omega arith)
      | then-n-gt16+else-n-gt24 w ↦
          let e16 = eight_more t xs _ _ 8 e8 w.move_part-then-n-gt16.ensures (omega arith) in
          last_eight t xs _ _ 16 (w.out-is ∙ e16) c.move_part-2.ensures (omega arith) (omega arith) (omega arith)
      | else-n-gt16 w ↦ last_eight t xs _ _ 8 (w.out-is ∙ e8) c.move_part-2.ensures (omega arith) (omega arith) (omega arith)
    ]
