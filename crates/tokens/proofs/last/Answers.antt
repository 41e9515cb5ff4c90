-- `tokens::last` meets its contract: fewer than eight bytes leave a zero, which ends the word.
use Rattle.std.proofs.Common.{◌≡◌, ℕ, ◌-◌, drop, ap, ◌∙◌, arith}
use Rattle.base.specs.Bytes.{num}
use Rattle.tokens.proofs.Turns.{num_room, left, left_ends, within, took}
use Rattle.tokens.proofs.last.Goals as goal

pub overflow_mul-w : goal.overflow_mul-w
overflow_mul-w c =
    let h = num_room c.args.s.now c.loop-j.j (λ i. (c.type_inv.s i).fits) (omega arith) in
    record { fits = omega (arith, c.loop-j.invariant.1) }

pub overflow_add-w : goal.overflow_add-w
overflow_add-w c =
    let h = num_room c.args.s.now c.loop-j.j (λ i. (c.type_inv.s i).fits) (omega arith) in
    record { fits = omega (arith, c.loop-j.invariant.1, c.from.ensures, (c.type_inv.s (c.loop-j.j - 1)).fits) }

pub end-requires : goal.end-requires
end-requires c =
    let s = c.args.s.now in
    let j : c.loop-j.j ≡ c.args.i = omega arith in
    let all = c.loop-j.invariant.1 ∙ ap (λ (n : ℕ). num (drop n s)) j in
    let z = left_ends s c.args.i c.loop-j.w (λ i. (c.type_inv.s i).fits) c.requires.1 c.requires.0 all in
    (c.requires.2, z, within s (λ i. (c.type_inv.s i).fits) c.args.i c.args.k c.loop-j.w c.requires.3 (left s c.args.i c.loop-j.w c.requires.1 all) z c.requires.0)

pub returns : goal.returns
returns c =
    let s = c.args.s.now in
    let j : c.loop-j.j ≡ c.args.i = omega arith in
    let all = c.loop-j.invariant.1 ∙ ap (λ (n : ℕ). num (drop n s)) j in
    let z = left_ends s c.args.i c.loop-j.w (λ i. (c.type_inv.s i).fits) c.requires.1 c.requires.0 all in
    took s (λ i. (c.type_inv.s i).fits) c.args.i c.args.k c.loop-j.w c.requires.3 (left s c.args.i c.loop-j.w c.requires.1 all) z c.requires.0 _ _ c.end.ensures.0 c.end.ensures.1
