-- What is chosen is in its range; and its index in a table is its number.
-- Assumes nothing.
use Prim.Native.Nat.{ℕ, ◌<◌}
use native.Mathlib.Omega.{arith}
use mathlib.Core.Path.{◌≡◌, refl}
use denote.Enum.Declared.{tag_of}
use Rattle.settings.specs.Settings.{ukrainian_ranges, french_ranges, Within}
use Rattle.settings.specs.Chosen.{gender_number, grammatical_number, case_number, apostrophe_number, style_number, spelling_number, region_number, feminine_number, numbers_of, french_numbers_of}
use Rattle.settings.specs.contracts.ukrainian.Gender as genders
use Rattle.settings.specs.contracts.ukrainian.Number as numbers
use Rattle.settings.specs.contracts.ukrainian.Case as cases
use Rattle.settings.specs.contracts.ukrainian.Apostrophe as apostrophes
use Rattle.settings.specs.contracts.french.Spelling as spellings
use Rattle.settings.specs.declared.ukrainian.Gender.{Gender}
use Rattle.settings.specs.declared.ukrainian.Gender.TheVariants.{Masculine, Feminine, Neuter}
use Rattle.settings.specs.declared.ukrainian.Number.{Number}
use Rattle.settings.specs.declared.ukrainian.Number.TheVariants.{Singular, Plural}
use Rattle.settings.specs.declared.ukrainian.Case.{Case}
use Rattle.settings.specs.declared.ukrainian.Case.TheVariants.{Nominative, Genitive, Dative, Accusative, Instrumental, Locative}
use Rattle.settings.specs.declared.ukrainian.Apostrophe.{Apostrophe}
use Rattle.settings.specs.declared.ukrainian.Apostrophe.TheVariants.{Letter, Quotation, Ascii}
use Rattle.settings.specs.declared.ukrainian.Style.{Style}
use Rattle.settings.specs.declared.ukrainian.Style.TheVariants.{Ported, School}
use Rattle.settings.specs.declared.ukrainian.Ukrainian.{Ukrainian}
use Rattle.settings.specs.declared.french.Spelling.{Spelling}
use Rattle.settings.specs.declared.french.Spelling.TheVariants.{Old, Reformed}
use Rattle.settings.specs.declared.french.Region.{Region}
use Rattle.settings.specs.declared.french.Region.TheVariants.{Fr, Be, Ch}
use Rattle.settings.specs.declared.french.French.{French}
use mathlib.Core.Bool.{Bool, true, false}

pub gender_bound : (g : Gender) → gender_number g < 3
gender_bound Masculine = omega arith
gender_bound Feminine = omega arith
gender_bound Neuter = omega arith

pub number_bound : (n : Number) → grammatical_number n < 2
number_bound Singular = omega arith
number_bound Plural = omega arith

pub case_bound : (c : Case) → case_number c < 6
case_bound Nominative = omega arith
case_bound Genitive = omega arith
case_bound Dative = omega arith
case_bound Accusative = omega arith
case_bound Instrumental = omega arith
case_bound Locative = omega arith

pub apostrophe_bound : (a : Apostrophe) → apostrophe_number a < 3
apostrophe_bound Letter = omega arith
apostrophe_bound Quotation = omega arith
apostrophe_bound Ascii = omega arith

pub style_bound : (s : Style) → style_number s < 2
style_bound Ported = omega arith
style_bound School = omega arith

pub spelling_bound : (s : Spelling) → spelling_number s < 2
spelling_bound Old = omega arith
spelling_bound Reformed = omega arith

pub region_bound : (r : Region) → region_number r < 3
region_bound Fr = omega arith
region_bound Be = omega arith
region_bound Ch = omega arith

pub feminine_bound : (b : Bool) → feminine_number b < 2
feminine_bound false = omega arith
feminine_bound true = omega arith

pub settings_within : (s : Ukrainian) → Within (ukrainian_ranges (numbers_of s))
settings_within s = (gender_bound s.gender, (number_bound s.number, (case_bound s.case, (apostrophe_bound s.apostrophe, (style_bound s.style, tt)))))

pub french_settings_within : (s : French) → Within (french_ranges (french_numbers_of s))
french_settings_within s = (feminine_bound s.feminine, (spelling_bound s.spelling, (region_bound s.region, tt)))

-- the index that a choice is in a table, which is its number
abbrev pub gender_index : Gender → ℕ
gender_index g = tag_of genders.the_type g

pub gender_index_lem : (g : Gender) → gender_index g ≡ gender_number g
gender_index_lem Masculine = refl
gender_index_lem Feminine = refl
gender_index_lem Neuter = refl

abbrev pub number_index : Number → ℕ
number_index n = tag_of numbers.the_type n

pub number_index_lem : (n : Number) → number_index n ≡ grammatical_number n
number_index_lem Singular = refl
number_index_lem Plural = refl

abbrev pub case_index : Case → ℕ
case_index c = tag_of cases.the_type c

pub case_index_lem : (c : Case) → case_index c ≡ case_number c
case_index_lem Nominative = refl
case_index_lem Genitive = refl
case_index_lem Dative = refl
case_index_lem Accusative = refl
case_index_lem Instrumental = refl
case_index_lem Locative = refl

abbrev pub apostrophe_index : Apostrophe → ℕ
apostrophe_index a = tag_of apostrophes.the_type a

pub apostrophe_index_lem : (a : Apostrophe) → apostrophe_index a ≡ apostrophe_number a
apostrophe_index_lem Letter = refl
apostrophe_index_lem Quotation = refl
apostrophe_index_lem Ascii = refl

abbrev pub spelling_index : Spelling → ℕ
spelling_index s = tag_of spellings.the_type s

pub spelling_index_lem : (s : Spelling) → spelling_index s ≡ spelling_number s
spelling_index_lem Old = refl
spelling_index_lem Reformed = refl
