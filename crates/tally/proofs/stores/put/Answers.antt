-- One byte more stored.
-- Assumes nothing.
use Rattle.std.proofs.Common.{◌≡◌, ℕ, ◌+◌, ◌-◌, List, length, take, suc, ap, ◌∙◌, arith}
use Rattle.std.proofs.lemmas.List.{length-take-le}
use Rattle.base.specs.Bytes.{low_bytes}
use Rattle.figures.proofs.Laws.Buffer.{sofar_turn}
use Rattle.tally.proofs.Laid.{low_length, low_next}
use Rattle.tally.proofs.stores.put.Goals as goal

pub loop-byte-preserved : goal.loop-byte-preserved
loop-byte-preserved c =
    let a = c.args in
    let b = c.loop-byte in
    let i : ℕ = b.byte-index in
    let t : List ℕ = low_bytes a.k a.n in
    let xs : List ℕ = take a.k a.out.now in
    let x : length xs ≡ a.k = length-take-le a.k a.out.now c.requires in
    let m : a.k - i ≡ suc (a.k - (i + 1)) = omega arith in
    let e = low_next t i (a.k - (i + 1)) b.rest (b.invariant.left ∙ ap (λ (j : ℕ). low_bytes j b.rest) m) in
    let l : length t ≡ a.k = low_length a.k a.n in
    record {
      stored = rw b.invariant.stored (rw (← e.0) (sofar_turn xs t i (omega arith) (omega arith)));
      left = e.1;
    }
