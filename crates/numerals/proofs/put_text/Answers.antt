-- `numerals::put_text` meets its contract: the digits of the highest group, and after them those of the groups below.
use Rattle.std.proofs.Common.{◌≡◌, ℕ, ◌+◌, ◌-◌, ◌*◌, ◌/◌, ◌%◌, ◌^◌, ◌<◌, ◌≤◌, List, ◌++◌, length, get_or, sym, ap, ◌∙◌, arith, length-take, length-drop}
use Rattle.base.specs.Buffer.{over}
use Rattle.figures.specs.Groups.{total, Groups}
use Rattle.figures.specs.Written.{fixed, decimal}
use Rattle.figures.proofs.Laws.Buffer.{wrote}
use Rattle.figures.proofs.Laws.Groups.{group_of_lem, group_lt, total_size}
use Rattle.figures.proofs.Laws.Text.{fixed_length, text_some, text_fixed}
use Rattle.numerals.proofs.Write.{fixed_high}
use Rattle.numerals.proofs.put_text.Goals as goal

-- the highest group is one of the groups
highest : (gs : List ℕ) (w : ℕ) → Groups gs → 0 < length gs → w ≡ length (decimal (total gs)) → (0 < w) × ((w - 1) / 3 < length gs)
highest gs w small some e =
    let most : length (decimal (total gs)) ≤ length gs * 3 = total_size gs small some in
    (omega (arith, text_some (total gs)), omega arith)

pub overflow_sub-o : goal.overflow_sub-o
overflow_sub-o c = (highest c.args.g.now c.args.w c.requires.groups c.requires.g_nonzero.0 c.requires.w_value).0

pub bounds-g-o : goal.bounds-g-o
bounds-g-o c = (highest c.args.g.now c.args.w c.requires.groups c.requires.g_nonzero.0 c.requires.w_value).1

pub put_digits-requires : goal.put_digits-requires
put_digits-requires c =
    let h = highest c.args.g.now c.args.w c.requires.groups c.requires.g_nonzero.0 c.requires.w_value in
    (group_lt c.args.g.now ((c.args.w - 1) / 3) c.requires.groups h.1, omega arith, omega arith, omega arith)

pub put_groups-requires : goal.put_groups-requires
put_groups-requires c =
    let h = highest c.args.g.now c.args.w c.requires.groups c.requires.g_nonzero.0 c.requires.w_value in
    record { groups = c.requires.groups; o_in_bounds = (omega arith, simp (length-take, length-drop) (omega (arith, c.put_digits.auto.out))) }

pub returns : goal.returns
returns c =
    let gs : List ℕ = c.args.g.now in
    let xs = c.args.out.now in
    let n : ℕ = total gs in
    let w : ℕ = c.args.w in
    let o : ℕ = (w - 1) / 3 in
    let i : ℕ = w - o * 3 in
    let h = highest gs w c.requires.groups c.requires.g_nonzero.0 c.requires.w_value in
    let group : get_or gs o 0 ≡ n / 1000 ^ o % 1000 = group_of_lem gs o c.requires.groups h.1 in
    let size : i + o * 3 ≡ length (decimal n) = omega arith in
    let text : fixed i (get_or gs o 0) ++ fixed (o * 3) n ≡ decimal n =
    rw group (fixed_high i o n (omega arith)) ∙ ap (λ (k : ℕ). fixed k n) size ∙ sym (text_fixed n) in
    wrote i xs (fixed i (get_or gs o 0)) (fixed (o * 3) n) c.put_digits.new.out c.put_groups.new.out (sym (fixed_length i (get_or gs o 0))) c.put_digits.ensures c.put_groups.ensures ∙
    ap (over xs) text
