-- `numerals::put_groups` meets its contract: each turn writes a group behind those above it.
use Rattle.std.proofs.Common.{◌≡◌, ℕ, ◌+◌, ◌-◌, ◌*◌, ◌/◌, ◌%◌, ◌^◌, List, ◌++◌, get_or, sym, ap, ◌∙◌, arith, length-take, length-drop}
use Rattle.base.specs.Buffer.{over}
use Rattle.figures.specs.Groups.{total}
use Rattle.figures.specs.Written.{fixed}
use Rattle.figures.proofs.Laws.Buffer.{wrote}
use Rattle.figures.proofs.Laws.Groups.{group_of_lem, group_lt}
use Rattle.figures.proofs.Laws.Text.{fixed_length}
use Rattle.numerals.proofs.Write.{fixed_low}
use Rattle.numerals.proofs.put_groups.Goals as goal

pub put_digits-requires : goal.put_digits-requires
put_digits-requires c = (
  group_lt c.args.g.now (c.loop-order.order - 1) c.requires.groups (omega arith),
  omega arith,
  omega arith,
  simp (length-take, length-drop) (omega arith),
)

pub loop-order-preserved : goal.loop-order-preserved
loop-order-preserved c =
    let at = c.loop-order in
    let gs = c.args.g.now in
    let xs = c.args.out.now in
    let n : ℕ = total gs in
    let order : ℕ = at.order - 1 in
    let i : ℕ = (c.args.o - at.order) * 3 in
    let high : List ℕ = fixed i (n / 1000 ^ at.order) in
    let place : (c.args.o - 1 - order) * 3 ≡ i = omega arith in
    let next : (c.args.o - order) * 3 ≡ i + 3 = omega arith in
    let more : at.order ≡ order + 1 = omega arith in
    let group : get_or gs order 0 ≡ n / 1000 ^ order % 1000 = group_of_lem gs order c.requires.groups (omega arith) in
    let both : high ++ fixed 3 (get_or gs order 0) ≡ fixed (i + 3) (n / 1000 ^ order) =
    ap (λ (m : ℕ). fixed i (n / 1000 ^ m) ++ fixed 3 (get_or gs order 0)) more ∙ rw group (fixed_low i n order) in
    wrote _ xs high (fixed 3 (get_or gs order 0)) at.out c.put_digits.new.out (place ∙ sym (fixed_length i (n / 1000 ^ at.order))) at.invariant c.put_digits.ensures ∙
    ap (over xs) (both ∙ ap (λ (k : ℕ). fixed k (n / 1000 ^ order)) (sym next))
