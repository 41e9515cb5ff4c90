-- The settings that the code has, and the numbers that a host gives for them.
-- Assumes nothing.
use Rattle.std.specs.Prelude.{ℕ, ◌≡◌, ◌≤◌, Bool, true, false, Result, Ok, Err}
use Rattle.base.specs.declared.Refusal.{Refusal}
use Rattle.base.specs.declared.Refusal.TheVariants.{WrongSetting}
use Rattle.settings.specs.Settings.{masculine, feminine, singular, plural, nominative, genitive, dative, accusative, instrumental, locative, old_spelling, new_spelling, region_fr, region_ch, letter_apostrophe, ported_style, school_style, Settings, ukrainian_settings, french_settings, ukrainian_ranges, french_ranges, within}
use Rattle.settings.specs.declared.ukrainian.Gender.{Gender}
use Rattle.settings.specs.declared.ukrainian.Gender.TheVariants.{Masculine, Feminine, Neuter}
use Rattle.settings.specs.declared.ukrainian.Number.{Number}
use Rattle.settings.specs.declared.ukrainian.Number.TheVariants.{Singular, Plural}
use Rattle.settings.specs.declared.ukrainian.Case.{Case}
use Rattle.settings.specs.declared.ukrainian.Case.TheVariants.{Nominative, Genitive, Dative, Accusative, Instrumental, Locative}
use Rattle.settings.specs.declared.ukrainian.Apostrophe.{Apostrophe}
use Rattle.settings.specs.declared.ukrainian.Apostrophe.TheVariants.{Letter, Quotation, Ascii}
use Rattle.settings.specs.declared.ukrainian.Style.{Style}
use Rattle.settings.specs.declared.ukrainian.Style.TheVariants.{Ported, School}
use Rattle.settings.specs.declared.ukrainian.Ukrainian.{Ukrainian}
use Rattle.settings.specs.declared.french.Spelling.{Spelling}
use Rattle.settings.specs.declared.french.Spelling.TheVariants.{Old, Reformed}
use Rattle.settings.specs.declared.french.Region.{Region}
use Rattle.settings.specs.declared.french.Region.TheVariants.{Fr, Be, Ch}
use Rattle.settings.specs.declared.french.French.{French}

abbrev pub gender_number : Gender → ℕ
gender_number Masculine = masculine
gender_number Feminine = feminine
gender_number Neuter = 2

abbrev pub grammatical_number : Number → ℕ
grammatical_number Singular = singular
grammatical_number Plural = plural

abbrev pub case_number : Case → ℕ
case_number Nominative = nominative
case_number Genitive = genitive
case_number Dative = dative
case_number Accusative = accusative
case_number Instrumental = instrumental
case_number Locative = locative

abbrev pub apostrophe_number : Apostrophe → ℕ
apostrophe_number Letter = letter_apostrophe
apostrophe_number Quotation = 1
apostrophe_number Ascii = 2

abbrev pub style_number : Style → ℕ
style_number Ported = ported_style
style_number School = school_style

abbrev pub spelling_number : Spelling → ℕ
spelling_number Old = old_spelling
spelling_number Reformed = new_spelling

abbrev pub region_number : Region → ℕ
region_number Fr = region_fr
region_number Be = 1
region_number Ch = region_ch

abbrev pub feminine_number : Bool → ℕ
feminine_number false = 0
feminine_number true = 1

-- the settings with their numbers
abbrev pub numbers_of : Ukrainian → Settings
numbers_of S = ukrainian_settings (gender_number S.gender) (grammatical_number S.number) (case_number S.case) (apostrophe_number S.apostrophe) (style_number S.style)

abbrev pub french_numbers_of : French → Settings
french_numbers_of S = french_settings (feminine_number S.feminine) (spelling_number S.spelling) (region_number S.region)

-- a number below this many is that of what is chosen; any other is no setting's
pub record Numbered {T : Type 0} (number_of : T → ℕ) (many : ℕ) (n : ℕ) (r : Result T Refusal) : Type 0 where
  pub chosen : (t : T) → r ≡ Ok t → number_of t ≡ n
  pub refused : (e : Refusal) → r ≡ Err e → (e ≡ WrongSetting) × (many ≤ n)

-- settings whose numbers are in their ranges are chosen, and others refused
pub record Chooses (r : Result Ukrainian Refusal) (S : Settings) : Type 0 where
  pub chosen : (s : Ukrainian) → r ≡ Ok s → numbers_of s ≡ S
  pub refused : (e : Refusal) → r ≡ Err e → (e ≡ WrongSetting) × (within (ukrainian_ranges S) ≡ false)

pub record ChoosesFrench (r : Result French Refusal) (S : Settings) : Type 0 where
  pub chosen : (s : French) → r ≡ Ok s → french_numbers_of s ≡ S
  pub refused : (e : Refusal) → r ≡ Err e → (e ≡ WrongSetting) × (within (french_ranges S) ≡ false)
