-- What the bytes that are left of a line ask for, as the code goes through it from the front. No answer is defined by it.
-- Assumes nothing.
use Rattle.std.specs.Prelude.{ℕ, cond, List, Option as OptionOf, Some, None}
use Rattle.std.proofs.Math.Option.{Option, none}
use Rattle.base.specs.Answer.{Spelling}
use Rattle.settings.specs.Settings.{ukrainian_ranges, french_ranges, within}
use Rattle.settings.specs.Settings.{Settings}
use Rattle.uk_calls.specs.UkCardinals.{uk_to_cardinal}
use Rattle.uk_ordinal_calls.specs.UkOrdinals.{uk_to_ordinal, uk_to_ordinal_num, year_text}
use Rattle.uk_money_calls.specs.MoneyCalls.{uk_to_currency}
use Rattle.fr_calls.specs.FrCalls.{fr_to_cardinal, fr_to_ordinal}
use Rattle.phrases_forms.specs.Cuts.{next_word, after_space, text_left, code_left}
use Rattle.phrases_forms.specs.declared.Kind.{Kind}
use Rattle.phrases_forms.specs.declared.Kind.TheVariants.{Card, Ord, Num, Year, Money}
use Rattle.phrases_forms.specs.declared.Language.{Language}
use Rattle.phrases_forms.specs.declared.Language.TheVariants.{Ukrainian, French}
use Rattle.phrases_answers.specs.Answers.{ukrainian_named, french_named}

-- what is left of a Ukrainian form of each kind
unfoldable pub ukrainian_left : Kind → Settings → List ℕ → Option Spelling
ukrainian_left Card S s = text_left (uk_to_cardinal S) s
ukrainian_left Ord S s = text_left (uk_to_ordinal S) s
ukrainian_left Num S s = text_left (uk_to_ordinal_num S) s
ukrainian_left Year S s = text_left (year_text S) s
ukrainian_left Money S s = code_left (uk_to_currency S) (next_word s) (after_space s)

-- of a French one
unfoldable pub french_left : Kind → Settings → List ℕ → Option Spelling
french_left Card S s = text_left (fr_to_cardinal S) s
french_left Ord S s = text_left (fr_to_ordinal S) s
french_left Num S s = none
french_left Year S s = none
french_left Money S s = none

-- the settings that the next three words name
abbrev pub ukrainian_next : List ℕ → Settings
ukrainian_next s = ukrainian_named (next_word s) (next_word (after_space s)) (next_word (after_space (after_space s)))

abbrev pub french_next : List ℕ → Settings
french_next s = french_named (next_word s) (next_word (after_space s)) (next_word (after_space (after_space s)))

-- what is left behind them
abbrev pub after_three : List ℕ → List ℕ
after_three s = after_space (after_space (after_space s))

-- settings and what follows them are left
unfoldable pub settled_left : Kind → Language → List ℕ → Option Spelling
settled_left k Ukrainian s = cond (within (ukrainian_ranges (ukrainian_next s))) (ukrainian_left k (ukrainian_next s) (after_three s)) none
settled_left k French s = cond (within (french_ranges (french_next s))) (french_left k (french_next s) (after_three s)) none

-- kind and language are known, if they are any
unfoldable pub known_left : OptionOf Kind → OptionOf Language → List ℕ → Option Spelling
known_left (Some k) (Some l) s = settled_left k l s
known_left (Some k) None s = none
known_left None l s = none
