-- All calls: what each is given, and what it comes to. The contracts of the exported functions cite this list; a measuring call's cites what its spelling
-- call comes to, and it is given the same. What the calls on a tally come to stands with them (tally_calls/specs/TallyCalls.antt); a preview's contract
-- cites what its call comes to, in the same way.
-- Assumes nothing.
use Rattle.std.specs.Prelude.{ℕ, ◌≡◌, ◌⊎◌, List, [], ◌∷◌, ℤ}
use Rattle.base.specs.Answer.{Spelling, replied, Answers}
use Rattle.base.specs.Measure.{measured}
use Rattle.base.specs.Reading.{Reading, Reads}
use Rattle.base.specs.declared.Answer.{Answer}
use Rattle.base.specs.declared.Measure.{Measure}
use Rattle.settings.specs.Settings.{ukrainian_settings, french_settings}
use Rattle.uk_calls.specs.UkCardinals.{uk_to_cardinal, uk_from_cardinal}
use Rattle.uk_ordinal_calls.specs.UkOrdinals.{uk_to_ordinal, uk_to_ordinal_num, uk_to_year, uk_from_ordinal, uk_from_year}
use Rattle.uk_money_calls.specs.MoneyCalls.{uk_to_currency, uk_from_currency}
use Rattle.tally_calls.specs.TallyCalls.{opening, TallyCall, move_of, Tallies}
use Rattle.tally_calls.specs.declared.Tallied.{Tallied}
use Rattle.fr_calls.specs.FrCalls.{fr_to_cardinal, fr_to_ordinal, fr_from_cardinal, fr_from_ordinal}

-- the spelling calls, each with the numbers and the input that it is given
pub data SpellingCall : Type 0 where
  to_cardinal : (gender number case apostrophe style : ℕ) (text : List ℕ) → SpellingCall
  to_ordinal : (gender number case apostrophe style : ℕ) (text : List ℕ) → SpellingCall
  to_ordinal_num : (gender number case apostrophe style : ℕ) (text : List ℕ) → SpellingCall
  to_year : (gender number case apostrophe style : ℕ) (year : ℤ) → SpellingCall
  to_currency : (gender number case apostrophe style : ℕ) (code text : List ℕ) → SpellingCall
  to_french_cardinal : (feminine reformed region : ℕ) (text : List ℕ) → SpellingCall
  to_french_ordinal : (feminine reformed region : ℕ) (text : List ℕ) → SpellingCall

-- what each comes to
abbrev pub spelling_of : SpellingCall → Spelling
spelling_of (to_cardinal gender number case apostrophe style text) = uk_to_cardinal (ukrainian_settings gender number case apostrophe style) text
spelling_of (to_ordinal gender number case apostrophe style text) = uk_to_ordinal (ukrainian_settings gender number case apostrophe style) text
spelling_of (to_ordinal_num gender number case apostrophe style text) = uk_to_ordinal_num (ukrainian_settings gender number case apostrophe style) text
spelling_of (to_year gender number case apostrophe style year) = uk_to_year (ukrainian_settings gender number case apostrophe style) year
spelling_of (to_currency gender number case apostrophe style code text) = uk_to_currency (ukrainian_settings gender number case apostrophe style) code text
spelling_of (to_french_cardinal feminine reformed region text) = fr_to_cardinal (french_settings feminine reformed region) text
spelling_of (to_french_ordinal feminine reformed region text) = fr_to_ordinal (french_settings feminine reformed region) text

-- the reading calls, each with what it is given besides the phrase
pub data ReadingCall : Type 0 where
  from_cardinal : (gender number case apostrophe style : ℕ) → ReadingCall
  from_ordinal : (gender number case apostrophe style : ℕ) → ReadingCall
  from_year : (gender number case apostrophe style : ℕ) → ReadingCall
  from_currency : (gender number case apostrophe style : ℕ) (code : List ℕ) → ReadingCall
  from_french_cardinal : (feminine reformed region : ℕ) → ReadingCall
  from_french_ordinal : (feminine reformed region : ℕ) → ReadingCall

-- what each comes to
abbrev pub reading_of : ReadingCall → Reading
reading_of (from_cardinal gender number case apostrophe style) = uk_from_cardinal (ukrainian_settings gender number case apostrophe style)
reading_of (from_ordinal gender number case apostrophe style) = uk_from_ordinal (ukrainian_settings gender number case apostrophe style)
reading_of (from_year gender number case apostrophe style) = uk_from_year (ukrainian_settings gender number case apostrophe style)
reading_of (from_currency gender number case apostrophe style code) = uk_from_currency (ukrainian_settings gender number case apostrophe style) code
reading_of (from_french_cardinal feminine reformed region) = fr_from_cardinal (french_settings feminine reformed region)
reading_of (from_french_ordinal feminine reformed region) = fr_from_ordinal (french_settings feminine reformed region)

-- the answer r, with the buffer xs left as ys, is one that the contract of some call allows
pub data Called (r : Answer) (xs ys : List ℕ) : Type 0 where
  by_spelling : (call : SpellingCall) → Answers r xs ys (replied (spelling_of call) xs) → Called r xs ys
  by_reading : (call : ReadingCall) (s : List ℕ) → Reads (reading_of call) s r xs ys → Called r xs ys
  by_opening : (code : List ℕ) → Answers r xs ys (replied (opening code) xs) → Called r xs ys

-- n is the number of an answer that the contract of some call allows
pub data NumberOfCall : ℕ → Type 0 where
  of_answer : (r : Answer) (xs ys : List ℕ) → Called r xs ys → NumberOfCall r.number
  of_measure : (call : SpellingCall) (m : Measure) → m ≡ measured (spelling_of call) → NumberOfCall m.refusal
  of_tally : (call : TallyCall) (ts : List ℕ) (r : Tallied) (xs ys : List ℕ) → Tallies r xs ys (move_of call ts).report → NumberOfCall r.refusal

-- n is one of these
abbrev pub OneOf : List ℕ → ℕ → Type 0
OneOf [] n = ⊥
OneOf (m ∷ ms) n = (n ≡ m) ⊎ OneOf ms n
