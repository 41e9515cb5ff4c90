-- The numbers by which a host knows refusals (01, "Where each refusal arises"; 02), and what a host gets of an outcome.
-- Assumes nothing.
use Rattle.std.specs.Prelude.{ℕ, Result, Ok, Err}
use Rattle.base.specs.Answer.{wrong_setting, wrong_code, malformed, wrong_sign, too_large, no_sentence, no_room, tally_full, sum_too_large, not_held}
use Rattle.base.specs.declared.Answer.{Answer}
use Rattle.base.specs.declared.Measure.{Measure}
use Rattle.base.specs.declared.Size.{Size}
use Rattle.base.specs.declared.Refusal.{Refusal}
use Rattle.base.specs.declared.Refusal.TheVariants.{WrongSetting, WrongCode, Malformed, WrongSign, TooLarge, NoSentence, NoRoom, TallyFull, SumTooLarge, NotHeld}

-- a refusal's number
abbrev pub refusal_number : Refusal → ℕ
refusal_number WrongSetting = wrong_setting
refusal_number WrongCode = wrong_code
refusal_number Malformed = malformed
refusal_number WrongSign = wrong_sign
refusal_number TooLarge = too_large
refusal_number NoSentence = no_sentence
refusal_number (NoRoom needed) = no_room
refusal_number TallyFull = tally_full
refusal_number SumTooLarge = sum_too_large
refusal_number NotHeld = not_held

-- the length that it reports
abbrev pub refusal_length : Refusal → ℕ
refusal_length WrongSetting = 0
refusal_length WrongCode = 0
refusal_length Malformed = 0
refusal_length WrongSign = 0
refusal_length TooLarge = 0
refusal_length NoSentence = 0
refusal_length (NoRoom needed) = needed
refusal_length TallyFull = 0
refusal_length SumTooLarge = 0
refusal_length NotHeld = 0

-- the answer of a call that wrote so many bytes, or was refused
abbrev pub answer_of : Result ℕ Refusal → Answer
answer_of (Ok length) = record { number = 0; length = length }
answer_of (Err refusal) = record { number = refusal_number refusal; length = refusal_length refusal }

-- the measure of a phrase of this size, or of a call that was refused
abbrev pub measure_in : Result Size Refusal → Measure
measure_in (Ok size) = record { refusal = 0; words = size.words; length = size.length }
measure_in (Err refusal) = record { refusal = refusal_number refusal; words = 0; length = 0 }

-- what a test comes to: 0 and 0, or the refusal's number and the length that it reports
abbrev pub outcome : Result (Unit {0}) Refusal → ℕ × ℕ
outcome (Ok done) = (0, 0)
outcome (Err refusal) = (refusal_number refusal, refusal_length refusal)
