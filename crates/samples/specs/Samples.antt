-- 01's proved samples: the table, and what it says of each line ("Proved samples"); and samples of what is measured (02, W1) and of the
-- three apostrophes (02, W2).
-- Assumes nothing.
use Rattle.std.specs.Prelude.{ℕ, ◌≡◌, List, [], ◌∷◌, ◌++◌, pos, neg_ℤ}
use Prim.Native.String.{String}
use Rattle.base.specs.Utf8.{utf8}
use Rattle.base.specs.Answer.{wrong_setting, malformed, wrong_sign, too_large, no_sentence, Spelling, refused}
use Rattle.base.specs.Measure.{measured}
use Rattle.base.specs.Reading.{Reading, Replies}
use Rattle.settings.specs.Settings.{masculine, feminine, singular, nominative, genitive, dative, accusative, instrumental, locative, old_spelling, new_spelling, region_fr, region_ch, letter_apostrophe, ported_style, ukrainian_settings, french_settings, in_gender, in_case}
use Rattle.settings.specs.Settings.{Settings}
use Rattle.uk_calls.specs.UkCardinals.{uk_to_cardinal, uk_from_cardinal}
use Rattle.uk_ordinal_calls.specs.UkOrdinals.{uk_to_ordinal, uk_to_ordinal_num, uk_to_year}
use Rattle.uk_money_calls.specs.MoneyCalls.{uk_to_currency}
use Rattle.fr_calls.specs.FrCalls.{fr_to_cardinal, fr_to_ordinal, fr_from_cardinal}

-- "Ukrainian masculine, singular, nominative, or French masculine, unreformed, FR, unless named"
abbrev pub usual : Settings
usual = ukrainian_settings masculine singular nominative letter_apostrophe ported_style

-- the same with the apostrophe of a number
abbrev pub usual_with : ℕ → Settings
usual_with apostrophe = ukrainian_settings masculine singular nominative apostrophe ported_style

abbrev pub usual_french : Settings
usual_french = french_settings masculine old_spelling region_fr

-- the definitions that the calls' contracts cite, of texts
abbrev pub uk_card : Settings → String → Spelling
uk_card S t = uk_to_cardinal S (utf8 t)

abbrev pub uk_ord : Settings → String → Spelling
uk_ord S t = uk_to_ordinal S (utf8 t)

abbrev pub uk_money : Settings → String → String → Spelling
uk_money S code t = uk_to_currency S (utf8 code) (utf8 t)

abbrev pub fr_card : Settings → String → Spelling
fr_card S t = fr_to_cardinal S (utf8 t)

abbrev pub fr_ord : Settings → String → Spelling
fr_ord S t = fr_to_ordinal S (utf8 t)

-- a line of the table: a call's phrase; its refusal; that it is not refused; its phrase beside one that it does not say ("Errors of habit"); a phrase
-- that a reading call refuses; and a call's measure: the refusal, the words, the length
pub data Sample : Type 1 where
  spells : Spelling → String → Sample
  refuses : Spelling → ℕ → Sample
  passes : Spelling → Sample
  spells_not : Spelling → String → String → Sample
  reads_not : Reading → String → Sample
  measures : Spelling → ℕ → ℕ → ℕ → Sample

-- what a line says
abbrev pub Holds : Sample → Type 0
Holds (spells S p) = (S.refusal ≡ 0) × (S.phrase ≡ utf8 p)
Holds (refuses S n) = S.refusal ≡ n
Holds (passes S) = S.refusal ≡ 0
Holds (spells_not S p q) = (S.refusal ≡ 0) × (S.phrase ≡ utf8 p) × (S.phrase ≡ utf8 q → ⊥)
Holds (reads_not R s) = (xs : List ℕ) → Replies R (utf8 s) xs (refused no_sentence 0)
Holds (measures S refusal words length) = measured S ≡ record { refusal = refusal; words = words; length = length }

-- every line holds
abbrev pub All : List Sample → Type 0
All [] = Unit
All (s ∷ ss) = Holds s × All ss

-- phrases and refusals
abbrev pub samples : List Sample
samples =
    spells (uk_card (in_gender feminine usual) "42") "сорок дві" ∷
    spells (uk_card (in_case genitive usual) "1000") "одної тисячі" ∷
    spells (uk_card usual "5000") "пʼять тисяч" ∷
    spells (uk_card (in_case accusative usual) "5000") "пʼять тисячі" ∷
    spells (uk_card (in_case locative usual) "-2000000") "мінус двох мільйони" ∷
    spells (uk_ord usual "21000") "двадцятиоднотисячний" ∷
    spells (uk_to_year (in_case genitive usual) (neg_ℤ (pos 43))) "сорок третього року до н.е." ∷
    spells (uk_money usual "UAH" "1.02") "одна гривня дві копійки" ∷
    spells (uk_money (in_case instrumental usual) "UAH" "0.11") "одинадцятьма копійками" ∷
    spells (fr_card (french_settings masculine new_spelling region_fr) "71") "soixante-et-onze" ∷
    spells (fr_card (french_settings feminine old_spelling region_ch) "81") "huitante et une" ∷
    spells (fr_card usual_french "80000") "quatre-vingt mille" ∷
    spells (fr_ord usual_french "200") "deux centsième" ∷
    refuses (uk_card usual "007") malformed ∷
    refuses (uk_card usual "-0") malformed ∷
    refuses (uk_money usual "UAH" "1.00") malformed ∷
    refuses (uk_money usual "UAH" "-0.50") wrong_sign ∷
    refuses (uk_card usual "1000000000000000000000000000000000000000000000000000000000000000000") too_large ∷
    passes (uk_card usual "999999999999999999999999999999999999999999999999999999999999999999") ∷
    reads_not (uk_from_cardinal usual) "два тисячі" ∷ []

-- "Errors of habit", each right phrase beside the wrong one, and that reading calls refuse wrong ones: "genitive after five in every case" (which is right
-- in the nominative and the genitive); "`двохсотий` for 200th; `un mille`; an ASCII apostrophe for U+02BC"
abbrev pub habits : List Sample
habits =
    spells (uk_card usual "5000") "пʼять тисяч" ∷
    spells (uk_card (in_case genitive usual) "5000") "пʼяти тисяч" ∷
    spells_not (uk_card (in_case dative usual) "5000") "пʼяти тисячам" "пʼяти тисяч" ∷
    spells_not (uk_card (in_case accusative usual) "5000") "пʼять тисячі" "пʼять тисяч" ∷
    spells_not (uk_card (in_case instrumental usual) "5000") "пʼятьма тисячами" "пʼятьма тисяч" ∷
    spells_not (uk_card (in_case locative usual) "5000") "пʼяти тисячах" "пʼяти тисяч" ∷
    reads_not (uk_from_cardinal (in_case accusative usual)) "пʼять тисяч" ∷
    spells_not (uk_ord usual "200") "сотий" "двохсотий" ∷
    spells_not (fr_card usual_french "1000") "mille" "un mille" ∷
    reads_not (fr_from_cardinal usual_french) "un mille" ∷
    spells_not (uk_card usual "5") "пʼять" "п'ять" ∷
    reads_not (uk_from_cardinal usual) "п'ять" ∷ []

-- words and lengths: `deux cents`, reformed `deux-cents`, `quatre-vingts`, `soixante et onze`, `deux centsième`; `мінус один`; `двадцятиоднотисячний`;
-- `один новий шекель`, whose noun is two words; `сорок четвертий рік до н.е.`; `42-го`; and a refusal
abbrev pub measure_samples : List Sample
measure_samples =
    measures (fr_card usual_french "200") 0 2 10 ∷
    measures (fr_card (french_settings masculine new_spelling region_fr) "200") 0 1 10 ∷
    measures (fr_card usual_french "80") 0 1 13 ∷
    measures (fr_card usual_french "71") 0 3 16 ∷
    measures (fr_ord usual_french "200") 0 2 15 ∷
    measures (uk_card usual "-1") 0 2 19 ∷
    measures (uk_ord usual "21000") 0 1 40 ∷
    measures (uk_money usual "ILS" "1") 0 3 32 ∷
    measures (uk_to_year usual (neg_ℤ (pos 44))) 0 5 48 ∷
    measures (uk_to_ordinal_num (in_case genitive usual) (utf8 "42")) 0 1 7 ∷
    measures (uk_money usual "UAH" "-0.50") wrong_sign 0 0 ∷ []

-- words with each of the signs, and their lengths; a number that is no sign's; reading, which takes the chosen sign alone, and no two signs in one phrase
abbrev pub apostrophe_samples : List Sample
apostrophe_samples =
    spells (uk_card (usual_with 0) "95") "девʼяносто пʼять" ∷
    spells (uk_card (usual_with 1) "95") "дев’яносто п’ять" ∷
    spells (uk_card (usual_with 2) "95") "дев'яносто п'ять" ∷
    spells (uk_ord (usual_with 1) "959") "дев’ятсот п’ятдесят дев’ятий" ∷
    spells (uk_ord (usual_with 2) "50000") "п'ятдесятитисячний" ∷
    spells (uk_money (usual_with 2) "UAH" "5.15") "п'ять гривень п'ятнадцять копійок" ∷
    measures (uk_card (usual_with 0) "95") 0 2 31 ∷
    measures (uk_card (usual_with 1) "95") 0 2 33 ∷
    measures (uk_card (usual_with 2) "95") 0 2 29 ∷
    refuses (uk_card (usual_with 3) "2") wrong_setting ∷
    refuses (uk_to_ordinal_num (usual_with 3) (utf8 "42")) wrong_setting ∷
    reads_not (uk_from_cardinal (usual_with 2)) "пʼять" ∷
    reads_not (uk_from_cardinal (usual_with 1)) "дев’яносто пʼять" ∷ []

-- the whole table
abbrev pub sample_table : List Sample
sample_table = samples ++ (measure_samples ++ (apostrophe_samples ++ habits))
