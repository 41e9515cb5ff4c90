-- `groups::number::Number::of` meets its contract: 7 groups hold every number of 64 bits.
-- Assumes nothing.
use Prim.Native.Nat.{◌^◌, ◌<◌, ◌≤◌}
use mathlib.Core.Path.{◌≡◌, ◌∙◌, ap}
use native.Mathlib.Omega.{arith}
use native.Mathlib.Nat.{pow-le-pow_right}
use Rattle.std.proofs.lemmas.List.{length-replicate}
use Rattle.figures.specs.Groups.{groups_of, total, Groups}
use Rattle.figures.proofs.Laws.Groups.{groups_below_lem, total_groups}
use Rattle.groups.proofs.number.Number.of.Goals as goal

pub invariant_of-result-clause-small : goal.invariant_of-result-clause-small
invariant_of-result-clause-small g c =
    let small : Groups c.groups_from-orders.new.out = rw (c.groups_from-orders.ensures.0, length-replicate) (groups_below_lem g.row.N c.args.n) in
    small

pub invariant_of-result-clause-highest : goal.invariant_of-result-clause-highest
invariant_of-result-clause-highest g c = c.groups_from-orders.ensures.1

pub returns : goal.returns
returns g c =
    let e : c.groups_from-orders.new.out ≡ groups_of g.row.N c.args.n = rw length-replicate at c.groups_from-orders.ensures.0 in
    let h : 1000 ^ 7 ≤ 1000 ^ g.row.N = pow-le-pow_right {n = 1000} (omega arith) {i = 7} {j = g.row.N} c.requires in
    let w : c.args.n < 2 ^ 64 = c.ranges.n.fits in
    ap total e ∙ total_groups g.row.N c.args.n (omega (arith, h, w))
