-- What the program writes to a line (01, "The program phrases"): the form of the line, then the definition of the call that it asks for.
-- Assumes nothing.
use Rattle.std.specs.Prelude.{ℕ, ◌+◌, ◌/◌, ◌%◌, cond, List, [], ◌∷◌, ◌++◌, eqb, leb, ltb, length, Option as OptionOf, Some, None}
use Rattle.std.proofs.Math.Option.{Option, none, some}
use Rattle.base.specs.Answer.{Spelling}
use Rattle.base.specs.Join.{Word}
use Rattle.base.specs.Signs.{line_feed, digit_zero}
use Rattle.base.specs.Utf8.{utf8}
use Rattle.settings.specs.Settings.{letter_apostrophe, ported_style, ukrainian_settings, french_settings, ukrainian_ranges, french_ranges, within}
use Rattle.settings.specs.Settings.{Settings}
use Rattle.uk_calls.specs.UkCardinals.{uk_to_cardinal}
use Rattle.uk_ordinal_calls.specs.UkOrdinals.{uk_to_ordinal, uk_to_ordinal_num, year_text}
use Rattle.uk_money_calls.specs.MoneyCalls.{uk_to_currency}
use Rattle.fr_calls.specs.FrCalls.{fr_to_cardinal, fr_to_ordinal}
use Rattle.phrases_forms.specs.Line.{words_of, kind_of, language_of, gender_of, grammatical_number_of, case_of, feminine_of, reformed_of, region_of, text_form, code_form}
use Rattle.phrases_forms.specs.declared.Kind.{Kind}
use Rattle.phrases_forms.specs.declared.Kind.TheVariants.{Card, Ord, Num, Year, Money}
use Rattle.phrases_forms.specs.declared.Language.{Language}
use Rattle.phrases_forms.specs.declared.Language.TheVariants.{Ukrainian, French}

-- the number text of a number below 100: a refusal's
abbrev pub numeral : ℕ → List ℕ
numeral n = cond (ltb n 10) ((digit_zero + n) ∷ []) ((digit_zero + n / 10) ∷ (digit_zero + n % 10) ∷ [])

-- "the phrase, `refused` and a number": the line of the refusal n, or where n is 0 of the phrase
abbrev pub line_of : ℕ → List ℕ → List ℕ
line_of n phrase = cond (eqb n 0) (phrase ++ (line_feed ∷ [])) (utf8 "refused " ++ (numeral n ++ (line_feed ∷ [])))

-- "Every other line, also an empty one, is a `bad line`"
abbrev pub bad_line : List ℕ
bad_line = utf8 "bad line" ++ (line_feed ∷ [])

-- what is written to a form of a call, and to what is no form
abbrev pub answer_to : Option Spelling → List ℕ
answer_to none = bad_line
answer_to (some S) = line_of S.refusal S.phrase

-- the last words of a Ukrainian form of each kind
unfoldable pub ukrainian_form : Kind → Settings → List Word → Option Spelling
ukrainian_form Card S ws = text_form (uk_to_cardinal S) ws
ukrainian_form Ord S ws = text_form (uk_to_ordinal S) ws
ukrainian_form Num S ws = text_form (uk_to_ordinal_num S) ws
ukrainian_form Year S ws = text_form (year_text S) ws
ukrainian_form Money S ws = code_form (uk_to_currency S) ws

-- of a French one: "French has card and ord"
unfoldable pub french_form : Kind → Settings → List Word → Option Spelling
french_form Card S ws = text_form (fr_to_cardinal S) ws
french_form Ord S ws = text_form (fr_to_ordinal S) ws
french_form Num S ws = none
french_form Year S ws = none
french_form Money S ws = none

-- the settings of a Ukrainian line, which names three of them: of apostrophes and of ordinal styles, "The program's lines mean 0" (02, W2 and W3)
abbrev pub line_settings : ℕ → ℕ → ℕ → Settings
line_settings gender number case = ukrainian_settings gender number case letter_apostrophe ported_style

-- the settings that three words name, in each language; a word that is no name is out of range
abbrev pub ukrainian_named : Word → Word → Word → Settings
ukrainian_named a b c = line_settings (gender_of a) (grammatical_number_of b) (case_of c)

abbrev pub french_named : Word → Word → Word → Settings
french_named a b c = french_settings (feminine_of a) (reformed_of b) (region_of c)

-- a form of a language and a kind with three words of settings and the last words
unfoldable pub settled : OptionOf Language → OptionOf Kind → Word → Word → Word → List Word → Option Spelling
settled (Some Ukrainian) (Some k) a b c ws = cond (within (ukrainian_ranges (ukrainian_named a b c))) (ukrainian_form k (ukrainian_named a b c) ws) none
settled (Some French) (Some k) a b c ws = cond (within (french_ranges (french_named a b c))) (french_form k (french_named a b c) ws) none
settled (Some l) None a b c ws = none
settled None k a b c ws = none

-- what the words of a line ask for: kind, language, three settings, and the rest
unfoldable pub form : List Word → Option Spelling
form (k ∷ l ∷ a ∷ b ∷ c ∷ ws) = settled (language_of l) (kind_of k) a b c ws
form (k ∷ l ∷ a ∷ b ∷ []) = none
form (k ∷ l ∷ a ∷ []) = none
form (k ∷ l ∷ []) = none
form (k ∷ []) = none
form [] = none

-- "at most 512 bytes"
abbrev pub longest_line : ℕ
longest_line = 512

-- "one bracket form a line"
unfoldable pub answer_line : List ℕ → List ℕ
answer_line s = cond (leb (length s) longest_line) (answer_to (form (words_of s))) bad_line
