-- `uk_ordinal_plan::say_ordinal` meets its contract: zero's word, or the groups above the lowest and the lowest.
-- Assumes nothing.
use Rattle.std.proofs.Common.{◌≡◌, get_or, ap, ◌∙◌, rules, arith}
use Rattle.settings.specs.Chosen.{numbers_of}
use Rattle.figures.specs.Groups.{total}
use Rattle.figures.proofs.Laws.Groups.{group_lt}
use Rattle.uk_ordinal.specs.Ordinal.{flexion, above}
use Rattle.uk_ordinal_plan.proofs.Laws.{told, speak, respeak}
use Rattle.uk_ordinal_plan.proofs.Orders.{lone, ordinal_zero, ordinal_higher}
use Rattle.uk_ordinal_plan.proofs.say_ordinal.Goals as goal

pub offset_bounds-number-order : goal.offset_bounds-number-order
offset_bounds-number-order g c = omega (arith, c.lowest.ensures.found c.in-Some.order c.in-Some.is)

pub bounds-number-order : goal.bounds-number-order
bounds-number-order g c = (c.lowest.ensures.found c.in-Some.order c.in-Some.is).0

pub lowest_words-requires : goal.lowest_words-requires
lowest_words-requires g c =
    let number = c.args.number.now in
    let low = c.lowest.ensures.found c.in-Some.order c.in-Some.is in
    let small = group_lt number.groups c.in-Some.order number.small (omega (arith, low.0, number.size)) in
    let some : get_or number.groups c.in-Some.order 0 ≡ 0 → ⊥ = low.2 in
    (search rules, (low.0, omega (arith, c.from-g.ensures, some), omega (arith, c.from-g.ensures, small), omega (arith, c.higher.ensures.added.near)))

pub returns-in-Some : goal.returns-in-Some
returns-in-Some g c =
    let S = numbers_of c.args.settings in
    let number = c.args.number.now in
    let gs = number.groups in
    let order = c.in-Some.order in
    let low = c.lowest.ensures.found order c.in-Some.is in
    let rest = above order (total gs) in
    let lowest = c.lowest_words.ensures rest (lone gs number.size number.small order low number.orders number.highest) in
    respeak 116 (speak 116 (told c.higher.ensures) (rw c.from-g.ensures at lowest) (omega arith)) (omega arith)
    (ordinal_higher gs number.size number.small order low S _ (c.ending-ending.ensures ∙ ap (flexion S) c.is_soft.ensures))

pub returns-in-None : goal.returns-in-None
returns-in-None g c =
    let S = numbers_of c.args.settings in
    respeak 116 (told c.zero_word.ensures) (omega arith)
    (ordinal_zero c.args.number.now.groups c.args.number.now.size c.args.number.now.small S _ (c.ending-ending.ensures ∙ ap (flexion S) c.is_soft.ensures) (c.lowest.ensures.none c.in-None.is))
