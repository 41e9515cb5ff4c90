-- 01's samples hold, and its errors of habit are errors: each line is computed from the written rules.
-- Assumes nothing.
use mathlib.Core.Path.{refl, ap}
use mathlib.Core.List.{[], ◌∷◌, flatten}
use Rattle.base.specs.Measure.{spaces}
use Rattle.base.specs.Utf8.{utf8, form1, form2, form3}
use Rattle.base.proofs.Same.{same_not}
use Rattle.figures.specs.Groups.{total}
use Rattle.settings.specs.Settings.{accusative, in_case, ukrainian_ranges, french_ranges}
use Rattle.settings.proofs.Ranges.{in_range}
use Rattle.tokens.specs.Tokens.{split, full_key, key}
use Rattle.meanings.specs.Lookup.{lookup}
use Rattle.uk_meanings.specs.Meanings.{shifts, table, meaning_of}
use Rattle.fr_meanings.specs.Meanings.{shifts as fr_shifts, table as fr_table, meaning_of as fr_meaning_of}
use Rattle.cardinals.specs.Cardinal.{groups_below, cardinal_words, cardinal_phrase}
use Rattle.uk.specs.UkTables.{zeros, gendered, units, teens_bases, teens_flexions, tens, hundreds, thousand_flexions, mega_bases, mega_flexions}
use Rattle.uk.specs.Apostrophes.{by_apostrophe1, by_apostrophe2}
use Rattle.uk.specs.Ukrainian.{unit_form, teen_form, ukrainian_digits, scale_ending, scale_noun, ukrainian_group, ukrainian}
use Rattle.uk_ordinal.specs.OrdinalTables.{ordinal_zero_base, one_base, ordinal_unit_bases, ordinal_tens_bases, hundred_base, adjective_hard_flexions_singular, adjective_hard_flexions_plural, adjective_soft_flexions_singular, adjective_soft_flexions_plural, year, ordinal_hard_flexions_singular_short}
use Rattle.uk_ordinal.specs.Ordinal.{flexion, compound_digits, compound_word, plain_words, lowest_words, ordinal_at, ordinal_from, ordinal_words}
use Rattle.uk_ordinal.specs.Year.{year_noun, year_words}
use Rattle.uk_ordinal.specs.DigitOrdinal.{short_flexion, digit_ordinal}
use Rattle.uk_money.specs.NounTables.{noun2st_group_hard_declensions, noun2st_group_soft_declensions, noun1st_group_soft_declensions_vowel, noun1st_group_hard_declensions, adjective_hard_masculine, hryvnias, kopiykas}
use Rattle.uk_money.specs.Nouns.{endings, form_of, name_forms, agreed_name}
use Rattle.uk_money.specs.Currencies.{currencies}
use Rattle.uk_money.specs.Codes.{currency_in}
use Rattle.uk_money.specs.Money.{count_words, amount_words, amount_phrase}
use Rattle.fr.specs.FrTables.{units as fr_units, tens as fr_tens, teens, megas}
use Rattle.fr.specs.Rules.{cent_word, hundred_words, ten_word, round_word, link, unit_word, pair_word, tens_words, mega_name, scale_word, scale_words, french_group, without_e, nth, nth_words, french}
use Rattle.fr.specs.Ordinal.{nth_of, nth_phrase}
use Rattle.uk_read.specs.Reading.{taken}
use Rattle.uk_read.proofs.Compared.{made}
use Rattle.uk_read.proofs.Falls.{lone}
use Rattle.fr_read.specs.Reading.{meanings, seems, groups_read, guessed}
use Rattle.fr_read.proofs.Below as below
use Rattle.fr_read.proofs.Decided.{found}
use Rattle.fr_calls.specs.FrCalls.{fr_from_cardinal}
use Rattle.samples.specs.Samples.{usual, usual_with, usual_french, reads_not, Holds, sample_table, All}
use Rattle.samples.proofs.NoSentence.{no_sentence_lem, thousands}

-- the rules that lines are computed from, and the readers', each under one name, so that to unfold it is to unfold them all
ukrainian_rules : Unit {0}
unfolding form1 form2 form3 by_apostrophe1 by_apostrophe2 zeros gendered units teens_bases teens_flexions tens hundreds thousand_flexions mega_bases mega_flexions unit_form teen_form ukrainian_digits scale_ending scale_noun ukrainian_group ukrainian groups_below cardinal_words cardinal_phrase
ukrainian_rules = tt

ordinal_rules : Unit {0}
unfolding ukrainian_rules ordinal_zero_base one_base ordinal_unit_bases ordinal_tens_bases hundred_base adjective_hard_flexions_singular adjective_hard_flexions_plural adjective_soft_flexions_singular adjective_soft_flexions_plural year flexion compound_digits compound_word plain_words lowest_words ordinal_at ordinal_from ordinal_words year_noun year_words flatten short_flexion digit_ordinal ordinal_hard_flexions_singular_short
ordinal_rules = tt

money_rules : Unit {0}
unfolding ukrainian_rules noun2st_group_hard_declensions noun2st_group_soft_declensions noun1st_group_soft_declensions_vowel noun1st_group_hard_declensions adjective_hard_masculine hryvnias kopiykas endings form_of name_forms agreed_name currencies currency_in count_words amount_words amount_phrase
money_rules = tt

french_rules : Unit {0}
unfolding form1 fr_units fr_tens teens megas cent_word hundred_words ten_word round_word link unit_word pair_word tens_words mega_name scale_word scale_words french_group french groups_below cardinal_words cardinal_phrase without_e nth nth_words nth_of nth_phrase
french_rules = tt

ukrainian_reader : Unit {0}
unfolding split full_key key lookup shifts table meaning_of taken
ukrainian_reader = tt

french_reader : Unit {0}
unfolding split full_key key lookup fr_shifts fr_table fr_meaning_of meanings seems groups_read guessed
french_reader = tt

-- of `un mille` the reader makes 1000
un_mille : Holds (reads_not (fr_from_cardinal usual_french) "un mille")
unfolding french_rules french_reader
un_mille =
    no_sentence_lem (found usual_french (in_range (french_ranges usual_french) refl) (utf8 "un mille")) (ap total (below.one_below 1 1 32 [])) refl

-- pairs without brackets
infixr 2 ◌&◌
◌&◌ : {A B : Type 0} → A → B → A × B
a & b = (a, b)

-- every line of the table holds, line by line; of `п'ять` and its like the reader makes the number, whatever the apostrophe, and its phrase is another
pub samples_hold : All sample_table
unfolding ordinal_rules money_rules french_rules ukrainian_reader spaces
samples_hold =
    (refl, refl) & (refl, refl) & (refl, refl) & (refl, refl) & (refl, refl) & (refl, refl) & (refl, refl) & (refl, refl) & (refl, refl) & (refl, refl)
    & (refl, refl) & (refl, refl) & (refl, refl) & refl & refl & refl & refl & refl & refl
    & no_sentence_lem (made usual (in_range (ukrainian_ranges usual) refl) _) (thousands _ _ refl 20) refl
    & refl & refl & refl & refl & refl & refl & refl & refl & refl & refl & refl
    & (refl, refl) & (refl, refl) & (refl, refl) & (refl, refl) & (refl, refl) & (refl, refl) & refl & refl & refl & refl & refl
    & no_sentence_lem (made (usual_with 2) (in_range (ukrainian_ranges (usual_with 2)) refl) _) (lone _ _ _ refl 21) refl
    & no_sentence_lem (made (usual_with 1) (in_range (ukrainian_ranges (usual_with 1)) refl) _) (lone _ _ _ refl 21) refl
    & (refl, refl) & (refl, refl) & (refl, refl, same_not _ _ refl) & (refl, refl, same_not _ _ refl) & (refl, refl, same_not _ _ refl) & (refl, refl, same_not _ _ refl)
    & no_sentence_lem (made (in_case accusative usual) (in_range (ukrainian_ranges (in_case accusative usual)) refl) _) (thousands _ _ refl 20) refl
    & (refl, refl, same_not _ _ refl) & (refl, refl, same_not _ _ refl) & un_mille & (refl, refl, same_not _ _ refl)
    & no_sentence_lem (made usual (in_range (ukrainian_ranges usual) refl) _) (lone _ _ _ refl 21) refl & tt
