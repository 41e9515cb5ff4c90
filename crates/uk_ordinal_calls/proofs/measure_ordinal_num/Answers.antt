-- `uk_ordinal_calls::measure_ordinal_num`: an admitted text's digits; the digit ordinal is one word.
-- Assumes nothing.
use Rattle.std.proofs.Common.{◌≡◌, sym, arith}
use Rattle.std.proofs.lemmas.Grind.{common_steps}
use Rattle.base.specs.Measure.{size_of}
use Rattle.settings.specs.Chosen.{numbers_of}
use Rattle.settings.proofs.Handed.{handed}
use Rattle.figures.specs.Refusals.{digit_ordinal_refusals, Admitted}
use Rattle.uk_ordinal.specs.DigitOrdinal.{digit_ordinal}
use Rattle.uk_ordinal_calls.proofs.Admitted.{digit_ordinal_digits}
use Rattle.uk_ordinal_calls.proofs.OneWord.{ordinal_unspaced}
use Rattle.uk_ordinal_calls.proofs.measure_ordinal_num.Goals as goal

pub size-requires : goal.size-requires
size-requires c = digit_ordinal_digits c.args.text.now (grind (arith, common_steps))

pub returns : goal.returns
returns c =
    let t = c.args.text.now in
    let S = numbers_of c.in_ok-settings.settings in
    let a : Admitted (digit_ordinal_refusals t) = grind (arith, common_steps) in
    let e : c.size_of.result ≡ size_of (digit_ordinal S t) = c.size_of.ensures _ (sym (ordinal_unspaced S t (digit_ordinal_digits t a).0)) c.size.ensures in
    grind (arith, common_steps, handed)
