-- A refusal's number is written as a number text: one computed test over the numbers below 100.
-- Assumes nothing.
use Prim.Native.Nat.{ℕ, ◌<◌}
use mathlib.Core.Path.{◌≡◌, refl}
use mathlib.Core.Bool.{Bool, true, false, not, ◌&&◌}
use native.Mathlib.Omega.{arith}
use borrow.Author.Tests.{eqb-true, not-true}
use lib.Dec.{eqb}
use Rattle.tables.proofs.Tests.{and_left, and_right, all, all_at}
use Rattle.figures.specs.Text.{value, negative, unsigned, well_formed}
use Rattle.figures.specs.Value.{IsNumber}
use Rattle.phrases_answers.specs.Answers.{numeral}

numeral? : ℕ → Bool
numeral? n = well_formed (numeral n) && (not (negative (numeral n)) && eqb (value (unsigned (numeral n))) n)

passes : all 0 100 numeral? ≡ true
unfolding numeral?
passes = refl

pub numeral_is : (n : ℕ) → n < 100 → IsNumber false n (numeral n)
unfolding numeral?
numeral_is n h =
    let t : numeral? n ≡ true = all_at 0 100 numeral? passes n (omega arith) (omega arith) in
    let r = and_right (well_formed (numeral n)) (not (negative (numeral n)) && eqb (value (unsigned (numeral n))) n) t in
    record {
      formed = and_left (well_formed (numeral n)) (not (negative (numeral n)) && eqb (value (unsigned (numeral n))) n) t;
      sign = not-true (negative (numeral n)) (and_left (not (negative (numeral n))) (eqb (value (unsigned (numeral n))) n) r);
      means = eqb-true (value (unsigned (numeral n))) n (and_right (not (negative (numeral n))) (eqb (value (unsigned (numeral n))) n) r);
    }
