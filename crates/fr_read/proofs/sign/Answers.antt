-- `fr_read::sign` meets its contract.
-- Assumes nothing.
use Rattle.fr_read.proofs.Cases.{sign_none, sign_some, sign_other}
use Rattle.fr_read.proofs.sign.Goals as goal

pub returns-in_err-first : goal.returns-in_err-first
returns-in_err-first c = let n = sign_none c.args.s.now c.in_err-first.ensures in rw c.from_residual.ensures (record { found = n.0; passed = (n.1, n.2) })

pub returns-then-meaning-eq-MINUS : goal.returns-then-meaning-eq-MINUS
returns-then-meaning-eq-MINUS c =
    let n = sign_some c.args.s.now c.in_ok-first.first c.meaning.result c.in_ok-first.ensures c.meaning.ensures c.if-meaning-eq-MINUS.true in
    record { found = n.0; passed = (n.1, n.2) }

pub returns-else-meaning-eq-MINUS : goal.returns-else-meaning-eq-MINUS
returns-else-meaning-eq-MINUS c =
    let n = sign_other c.args.s.now c.in_ok-first.first c.meaning.result c.in_ok-first.ensures c.meaning.ensures c.if-meaning-eq-MINUS.false in
    record { found = n.0; passed = (n.1, n.2) }
