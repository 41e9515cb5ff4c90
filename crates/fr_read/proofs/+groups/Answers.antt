-- `fr_read::groups` meets its contract.
-- Assumes nothing.
use native.Mathlib.Omega.{arith}
use Rattle.fr_read.proofs.Below.{no_groups, zeros_above, zeros_none, reads_none, set_below, reads_below}
use Rattle.fr_read.proofs.+groups.Goals as goal

pub returns-then-k-eq0 : goal.returns-then-k-eq0
returns-then-k-eq0 t c = let n = no_groups _ c.args.out.now c.args.k c.if-k-eq0.true in record { out_after = n.0; zero_from = n.1 }

pub groups-requires : goal.groups-requires
groups-requires t c = (omega arith, (omega arith, set_below c.args.out.now c.args.k c.requires.1 _ _ c.if-order-k.true))

pub returns-then-order-k : goal.returns-then-order-k
returns-then-order-k t c =
    let g = c.first_group-g.result in
    let e = c.first_group-g.ensures.s_value in
    let o = c.if-order-k.true in
    record {
      out_after = reads_below c.args.out.now c.args.k c.requires.1 g.order g.value o c.args.s.now _ g.next e c.groups.ensures.out_after;
      zero_from = (rw e (zeros_above c.args.k _), omega arith);
    }

pub returns : goal.returns
returns t c =
    let e = c.first_group-g.ensures.s_value in
    let o = c.if-order-k.false in
    record {
      out_after = reads_none c.args.out.now c.args.k c.requires.1 _ _ e o;
      zero_from = (rw e (zeros_none c.args.k _ o), omega arith);
    }
