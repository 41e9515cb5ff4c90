-- `uk_counts::count` meets its contract.
use Rattle.std.proofs.Common.{refl, arith}
use Rattle.uk_counts.proofs.Laws.{too_short, none, long, count_below}
use Rattle.uk_counts.proofs.count.Goals as goal

pub returns-then-s-lt-PLACES : goal.returns-then-s-lt-PLACES
returns-then-s-lt-PLACES c = too_short c.args.s.now c.if-s-lt-PLACES.true

pub returns-then-entry-eq0 : goal.returns-then-entry-eq0
returns-then-entry-eq0 c =
    none c.args.s.now _ _ _ _ c.seven.ensures c.lead_at-lead.ensures c.from-told.ensures c.count_at-entry.ensures c.if-s-lt-PLACES.false c.then-entry-eq0.either

pub overflow_cast-result : goal.overflow_cast-result
overflow_cast-result c = record { fits = omega (arith, c.count_at-entry.ensures, count_below) }

pub returns : goal.returns
returns c =
    let e = long c.args.s.now _ _ _ _ c.seven.ensures c.lead_at-lead.ensures c.from-told.ensures c.count_at-entry.ensures c.if-s-lt-PLACES.false c.if-s-length.false in
    rw e (omega arith, refl, refl, c.if-s-length.false, omega (arith, c.count_at-entry.ensures, count_below))
