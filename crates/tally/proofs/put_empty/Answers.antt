-- An empty tally's bytes are those of its currency's number, and zeros.
-- Assumes nothing.
use Rattle.std.proofs.Common.{◌≡◌, ℕ, ◌+◌, ◌/◌, ◌%◌, List, ◌∷◌, refl, sym, ap, ◌∙◌, arith}
use Rattle.base.specs.Buffer.{over}
use Rattle.base.specs.Bytes.{low_bytes}
use Rattle.figures.proofs.Laws.Buffer.{wrote}
use Rattle.tally.proofs.Stored.{empty_bytes_lem}
use Rattle.tally.proofs.put_empty.Goals as goal

pub returns : goal.returns
returns c =
    let xs : List ℕ = c.args.out.now in
    let p : ℕ = c.args.currency.place in
    let z : (p + 1) / 256 ≡ 0 = omega (arith, c.args.currency.known) in
    wrote 1 xs (low_bytes 1 (p + 1)) (low_bytes 836 0) c.put.new.out c.put-2.new.out refl c.put.ensures c.put-2.ensures
    ∙ ap (λ (m : ℕ). over xs (((p + 1) % 256) ∷ low_bytes 836 m)) (sym z) ∙ ap (over xs) (empty_bytes_lem p c.args.currency.known)
