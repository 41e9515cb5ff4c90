-- `uk_read::groups` meets its contract.
-- Assumes nothing.
use native.Mathlib.Omega.{arith}
use Rattle.tokens.specs.Tokens.{split}
use Rattle.uk_read.proofs.Below.{zeros_above, no_groups, reads_below, left_below, set_below, set_groups}
use Rattle.uk_read.proofs.+groups.Goals as goal

pub returns-then-k-eq0 : goal.returns-then-k-eq0
returns-then-k-eq0 t c =
    let n = no_groups c.args.s.now c.args.out.now c.args.k c.requires.1 (omega arith) in
    record { out_after = n.0; s_value = n.1; zero_from = n.2 }

pub groups-below-requires : goal.groups-below-requires
groups-below-requires t c =
    (omega arith, (omega arith, set_below c.args.out.now c.args.k c.requires.1 c.first_group-g.result.order c.first_group-g.result.value c.if-order-k.true))

pub returns-then-order-k : goal.returns-then-order-k
returns-then-order-k t c =
    let s = c.args.s.now in
    let x = c.args.out.now in
    let k = c.args.k in
    let g = c.first_group-g.result in
    let e = c.first_group-g.ensures in
    let p = c.groups-below.ensures in
    let z = c.requires.1 in
    let o = c.if-order-k.true in
    record {
      out_after = (
        reads_below s x c.groups-below.new.out k g.order g.value g.next c.groups-below.result.bytes z o e.value_value.0 e.value_value.1 e.s_value.0 p.out_after.0,
        λ q. p.out_after.1 (set_groups x g.order g.value e.value_value.2 q),
      );
      s_value = (
        left_below s x c.groups-below.new.out k g.order g.value g.next c.groups-below.result.bytes z o e.value_value.1 e.s_value.0 p.s_value.0,
        omega (arith, p.s_value.1),
      );
      zero_from = (rw e.value_value.1 (zeros_above k (split s)), omega arith);
    }

pub returns : goal.returns
returns t c =
    let n = no_groups c.args.s.now c.args.out.now c.args.k c.requires.1 (omega (arith, c.first_group-g.ensures.value_value.1)) in
    record { out_after = n.0; s_value = n.1; zero_from = n.2 }
