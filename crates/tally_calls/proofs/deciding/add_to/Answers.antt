-- Bytes that hold no tally are refused, and then texts that are no amounts; what is left is what the addition asks for.
-- Assumes nothing.
use Rattle.std.proofs.Common.{◌≡◌, ℕ, None, Some, Err, refl, sym, ap, ◌∙◌, rules}
use Rattle.base.specs.declared.Refusal.TheVariants.{WrongCode}
use Rattle.tally_calls.proofs.Decisions.{numbered, decides_refused, tally_at}
use Rattle.tally_calls.proofs.Refused.{adds_nowhere, adds_text}
use Rattle.tally_calls.proofs.deciding.add_to.Goals as goal

pub returns-in_err-currency : goal.returns-in_err-currency
returns-in_err-currency c =
    let refused : c.from_residual-in_err-currency.result ≡ Err WrongCode = search rules in
    let nowhere : c.currency_of.result ≡ None = search rules in
    let chosen = c.in_ok-settings.ensures.chosen _ refl in
    rw (refused, c.currency_of.ensures.none nowhere) (decides_refused WrongCode refl c.args.tally.now c.args.out.now _ (adds_nowhere _ chosen c.args.text.now))

pub returns-in_err-judge_amount : goal.returns-in_err-judge_amount
returns-in_err-judge_amount c =
    let e = c.in_err-judge_amount.field-0.0 in
    let refused : c.from_residual-in_err-judge_amount.result ≡ Err e = search rules in
    let there : c.currency_of.result ≡ Some c.in_ok-currency.currency = search rules in
    let t = c.currency_of.ensures.found _ there in
    let chosen = c.in_ok-settings.ensures.chosen _ refl in
    let number = ap (λ (p : ℕ × ℕ). p.0) c.in_err-judge_amount.ensures in
    let first = adds_text _ chosen (tally_at c.in_ok-currency.currency.place c.args.tally.now) c.args.text.now (λ z. numbered e (number ∙ z)) in
    rw (refused, t.2) (decides_refused e (ap (λ (p : ℕ × ℕ). p.1) c.in_err-judge_amount.ensures) c.args.tally.now c.args.out.now _ (first ∙ sym number))

pub add_amount-requires : goal.add_amount-requires
add_amount-requires c =
    let there : c.currency_of.result ≡ Some c.in_ok-currency.currency = search rules in
    let t = c.currency_of.ensures.found _ there in
    (t.0, sym (ap (λ (p : ℕ × ℕ). p.0) c.in_ok-judge_amount.ensures), t.1)
