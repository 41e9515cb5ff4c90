-- `uk_read::minus` meets its contract.
-- Assumes nothing.
use mathlib.Core.Path.{sym}
use borrow.Author.Tests.{eqb-true, eqb-false}
use Rattle.uk_read.proofs.Texts.{sign_none, sign_some, sign_other}
use Rattle.uk_read.proofs.minus.Goals as goal

pub returns-then-is_empty : goal.returns-then-is_empty
returns-then-is_empty c =
    let s = sign_none c.args.s.now (eqb-true _ _ (sym c.if-is_empty.ensures)) in
    record { found = s.0; passed = (s.1, s.2) }

pub returns-then-meaning-eq-MINUS : goal.returns-then-meaning-eq-MINUS
returns-then-meaning-eq-MINUS c =
    let s = sign_some c.args.s.now _ _ _ (eqb-false _ _ (sym c.if-is_empty.ensures)) c.first-t.ensures c.meaning.ensures c.if-meaning-eq-MINUS.true in
    record { found = s.0; passed = (s.1, s.2) }

pub returns-else-meaning-eq-MINUS : goal.returns-else-meaning-eq-MINUS
returns-else-meaning-eq-MINUS c =
    let s = sign_other c.args.s.now _ _ _ (eqb-false _ _ (sym c.if-is_empty.ensures)) c.first-t.ensures c.meaning.ensures c.if-meaning-eq-MINUS.false in
    record { found = s.0; passed = (s.1, s.2) }
