-- A code that is none is refused; of another the empty tally is written where it fits.
-- Assumes nothing.
use Rattle.std.proofs.Common.{◌≡◌, ◌<◌, None, Some, Err, refl, rules, arith}
use Rattle.base.specs.declared.Refusal.TheVariants.{WrongCode}
use Rattle.figures.proofs.Laws.Buffer.{answer_yes, answer_no}
use Rattle.uk_money.proofs.Coded.{known_code, unknown_code}
use Rattle.uk_money.specs.Rows.{currency_at, code_place}
use Rattle.tally.specs.Tally.{empty_tally}
use Rattle.tally.specs.Layout.{tally_bytes}
use Rattle.tally_calls.proofs.open.Goals as goal

pub returns-in_err-currency : goal.returns-in_err-currency
returns-in_err-currency c =
    let refused : c.from_residual.result ≡ Err WrongCode = search rules in
    let nowhere : c.code_of.result ≡ None = search rules in
    rw (refused, unknown_code _ (c.code_of.ensures.none nowhere)) (record { reported = refl; sized = refl; held = refl })

pub returns-then-out-lt-SIZE : goal.returns-then-out-lt-SIZE
returns-then-out-lt-SIZE c =
    let a = c.args in
    let there : c.code_of.result ≡ Some c.in_ok-currency.currency = search rules in
    let e = c.code_of.ensures.found _ there in
    let below : code_place a.code.now < 44 = rw e at c.in_ok-currency.currency.known in
    rw (known_code _ below) (answer_no _ a.out.now a.out.now (tally_bytes (empty_tally (currency_at (code_place a.code.now)))) refl refl (omega arith) refl)

pub returns : goal.returns
returns c =
    let a = c.args in
    let there : c.code_of.result ≡ Some c.in_ok-currency.currency = search rules in
    let e = c.code_of.ensures.found _ there in
    let below : code_place a.code.now < 44 = rw e at c.in_ok-currency.currency.known in
    rw (known_code _ below) (answer_yes _ a.out.now _ (tally_bytes (empty_tally (currency_at (code_place a.code.now)))) refl refl (omega arith) (rw e at c.put_empty.ensures))
