-- `figures::refusals::judge_digit_ordinal` meets its contract: a plain text has no sign.
use Rattle.std.proofs.Common.{◌≡◌, true, false, sym, ◌∙◌}
use Rattle.figures.specs.Text.{plain, negative, unsigned}
use Rattle.figures.proofs.Laws.Plain.{plain_digits}
use Rattle.figures.proofs.Laws.Sign.{digits_unsigned, unsigned_plain}
use Rattle.figures.proofs.refusals.judge_digit_ordinal.Goals as goal

pub returns-then-is_plain : goal.returns-then-is_plain
returns-then-is_plain c =
    let s = c.args.s.now in
    let p : plain s ≡ true = sym c.if-is_plain.ensures in
    let minus : negative s ≡ false = digits_unsigned s (plain_digits s p) in
    let same : unsigned s ≡ s = unsigned_plain s minus in
    c.limited.ensures ∙ rw (same, p, minus)
