-- A refusal that is handed on to a host: what is answered, measured and read then.
-- Assumes nothing.
use Rattle.std.proofs.Common.{◌≡◌, ℕ, zero, suc, List, Err, refl, sym, ◌∙◌, arith}
use Rattle.base.specs.Answer.{fitted, unless, Answers}
use Rattle.base.specs.Measure.{measure_unless}
use Rattle.base.specs.Reading.{Reading, Reads}
use Rattle.base.specs.Refused.{refusal_number, refusal_length, answer_of, measure_in}
use Rattle.base.specs.declared.Refusal.{Refusal}
use Rattle.base.specs.declared.Refusal.TheVariants.{WrongSetting, WrongCode, Malformed, WrongSign, TooLarge, NoSentence, NoRoom, TallyFull, SumTooLarge, NotHeld}
use Rattle.base.proofs.Replies.{refused_as, refuses_first}

number_some : (e : Refusal) → refusal_number e ≡ 0 → ⊥
number_some WrongSetting z = omega arith
number_some WrongCode z = omega arith
number_some Malformed z = omega arith
number_some WrongSign z = omega arith
number_some TooLarge z = omega arith
number_some NoSentence z = omega arith
number_some (NoRoom needed) z = omega arith
number_some TallyFull z = omega arith
number_some SumTooLarge z = omega arith
number_some NotHeld z = omega arith

pub answers_refused : (e : Refusal) (n : ℕ) (phrase xs : List ℕ) → refusal_number e ≡ n → refusal_length e ≡ 0 → Answers (answer_of (Err e)) xs xs (unless n (fitted xs phrase))
answers_refused e n phrase xs h z = refused_as _ xs _ _ n (refl, z) h (number_some e)

pub measures_refused : (e : Refusal) (n : ℕ) (phrase : List ℕ) → refusal_number e ≡ n → measure_in (Err e) ≡ measure_unless n phrase
measures_refused e zero phrase h = absurd (number_some e h)
measures_refused e (suc n) phrase h = rw h refl

pub reads_refused : (e : Refusal) (R : Reading) (s xs : List ℕ) → refusal_number e ≡ R.refusal → refusal_length e ≡ 0 → Reads R s (answer_of (Err e)) xs xs
reads_refused e R s xs h z = refuses_first R s _ xs (refusal_number e) (refl, z) (sym h) (number_some e)
