-- `uk_ordinal_read::last::compound` meets its contract.
-- Assumes nothing.
use borrow.Author.Tests.{eq-eqb, ne_eqb}
use Rattle.uk_ordinal_read.proofs.CountLaws.{compound_means}
use Rattle.uk_ordinal_read.proofs.last.compound.Goals as goal

pub returns-then-c-eq0 : goal.returns-then-c-eq0
returns-then-c-eq0 c =
    let n = c.count-c in
    let p = compound_means c.args.stem.now n.result.value n.result.next c.first-t.result.key c.meaning-m.result c.requires n.ensures.value_value.0 n.ensures.value_value.1 n.ensures.s_value.0 c.first-t.ensures.0 c.meaning-m.ensures in
    rw c.from.ensures (rw (eq-eqb n.result.value 0 c.if-c-eq0.true) at p)

pub returns-else-c-eq0 : goal.returns-else-c-eq0
returns-else-c-eq0 c =
    let n = c.count-c in
    let p = compound_means c.args.stem.now n.result.value n.result.next c.first-t.result.key c.meaning-m.result c.requires n.ensures.value_value.0 n.ensures.value_value.1 n.ensures.s_value.0 c.first-t.ensures.0 c.meaning-m.ensures in
    rw c.from.ensures (rw (ne_eqb n.result.value 0 c.if-c-eq0.false) at p)
