-- `groups::groups_from` meets its contract: each turn stores a group more, and where nothing is left, as after seven, the other groups are 0.
use Rattle.std.proofs.Common.{◌≡◌, ℕ, ◌/◌, ◌%◌, ◌^◌, ◌≤◌, length, sym, ap, ◌∙◌, subst, arith}
use Rattle.std.proofs.lemmas.List.{set-get_or}
use borrow.Author.Count.{below_more}
use Rattle.figures.proofs.Laws.Groups.{rest_turn}
use Rattle.groups.specs.Highest.{Highest}
use Rattle.groups.proofs.Highest.{few_orders, all_orders}
use Rattle.groups.proofs.Triples.{group_turn, stored_all}
use Rattle.groups.proofs.groups_from.Goals as goal

pub returns-then-rest-eq0 : goal.returns-then-rest-eq0
returns-then-rest-eq0 c =
    let at = c.loop-orders in
    let xs = c.args.out.now in
    let none : c.args.n / 1000 ^ at.orders ≡ 0 = sym at.invariant.left ∙ c.if-rest-eq0.true in
    let all = set-get_or at.out at.orders 0 ∙ at.invariant.stored ∙ stored_all xs c.args.n at.orders c.requires.out_value none in
    (all, subst (λ l. Highest l at.orders) (sym all) (all_orders c.args.n at.orders at.invariant.above (length xs) (omega arith) none))

pub loop-orders-preserved : goal.loop-orders-preserved
loop-orders-preserved c =
    let at = c.loop-orders in
    let n : ℕ = c.args.n in
    let o : ℕ = at.orders in
    record {
      left = rest_turn n at.rest o at.invariant.left;
      stored = rw at.invariant.stored (group_turn c.args.out.now n o (at.rest % 1000) (omega arith) (ap (λ (k : ℕ). k % 1000) at.invariant.left));
      above = below_more _ _ at.invariant.above (λ e. c.if-rest-eq0.false (at.invariant.left ∙ e));
    }

pub returns : goal.returns
returns c =
    let at = c.loop-orders in
    let xs = c.args.out.now in
    let n : ℕ = c.args.n in
    let few : at.orders ≤ 7 = few_orders n at.orders at.invariant.above 7 (omega arith) in
    let seven : at.orders ≡ 7 = omega arith in
    let none : n / 1000 ^ at.orders ≡ 0 = rw seven (omega arith) in
    let all = at.invariant.stored ∙ stored_all xs n at.orders c.requires.out_value none in
    let many : at.orders ≡ length at.out = omega arith in
    (all, rw (← many, all) (all_orders n at.orders at.invariant.above (length xs) (omega arith) none))
