-- The settings of a call, one record for both languages, and their ranges (01, "From the repository, and added"; 02).
-- Assumes nothing.
use Rattle.std.specs.Prelude.{ℕ, ◌<◌, Bool, true, ◌&&◌, List, [], ◌∷◌, ltb}
use Rattle.settings.specs.declared.Settings as declared

-- the numbers of a call's settings. A language leaves the fields that it does not have at 0
abbrev pub Settings : Type 0
Settings = declared.Settings

-- 01's numbers of genders ("French: feminine 0 or 1"), of grammatical numbers, of cases "in `Declension`'s order", of spellings and of regions
abbrev pub masculine : ℕ
masculine = 0

abbrev pub feminine : ℕ
feminine = 1

abbrev pub singular : ℕ
singular = 0

abbrev pub plural : ℕ
plural = 1

abbrev pub nominative : ℕ
nominative = 0

abbrev pub genitive : ℕ
genitive = 1

abbrev pub dative : ℕ
dative = 2

abbrev pub accusative : ℕ
accusative = 3

abbrev pub instrumental : ℕ
instrumental = 4

abbrev pub locative : ℕ
locative = 5

abbrev pub old_spelling : ℕ
old_spelling = 0

abbrev pub new_spelling : ℕ
new_spelling = 1

abbrev pub region_fr : ℕ
region_fr = 0

abbrev pub region_ch : ℕ
region_ch = 2

-- 02's number (W2) of the apostrophe that the source's words have, U+02BC
abbrev pub letter_apostrophe : ℕ
letter_apostrophe = 0

-- 02's numbers (W3) of the ordinal styles: "the ported one, 0", and "as taught in school"
abbrev pub ported_style : ℕ
ported_style = 0

abbrev pub school_style : ℕ
school_style = 1

-- the settings of a Ukrainian call's numbers; what a language does not have is 0
abbrev pub ukrainian_settings : ℕ → ℕ → ℕ → ℕ → ℕ → Settings
ukrainian_settings gender number case apostrophe style = record { gender = gender; number = number; case = case; reformed = 0; region = 0; apostrophe = apostrophe; style = style }

-- those of a French call's
abbrev pub french_settings : ℕ → ℕ → ℕ → Settings
french_settings gender reformed region = record { gender = gender; number = 0; case = 0; reformed = reformed; region = region; apostrophe = 0; style = 0 }

-- each Ukrainian setting with its bound: gender 0 to 2, grammatical number 0 or 1, "case 0 to 5"; apostrophe "0 for U+02BC, 1 for U+2019, 2 for the
-- ASCII sign" (02, W2), style 0 or 1 (W3)
abbrev pub ukrainian_ranges : Settings → List (ℕ × ℕ)
ukrainian_ranges S = (S.gender, 3) ∷ (S.number, 2) ∷ (S.case, 6) ∷ (S.apostrophe, 3) ∷ (S.style, 2) ∷ []

-- each French one: "feminine 0 or 1, reformed 0 or 1, region 0 FR, 1 BE, 2 CH"
abbrev pub french_ranges : Settings → List (ℕ × ℕ)
french_ranges S = (S.gender, 2) ∷ (S.reformed, 2) ∷ (S.region, 3) ∷ []

-- every value is below its bound
abbrev pub within : List (ℕ × ℕ) → Bool
within [] = true
within (r ∷ rs) = ltb r.0 r.1 && within rs

-- the same as a statement
abbrev pub Within : List (ℕ × ℕ) → Type 0
Within [] = Unit {0}
Within (r ∷ rs) = (r.0 < r.1) × Within rs

-- the settings S in another gender: so units at an order are spoken, the counts of money, and a year's ordinal
abbrev pub in_gender : ℕ → Settings → Settings
in_gender gender S = record { gender = gender; number = S.number; case = S.case; reformed = S.reformed; region = S.region; apostrophe = S.apostrophe; style = S.style }

-- the settings S in another grammatical number and case: so a noun agrees with its count
abbrev pub in_form : ℕ → ℕ → Settings → Settings
in_form number case S = record { gender = S.gender; number = number; case = case; reformed = S.reformed; region = S.region; apostrophe = S.apostrophe; style = S.style }

-- the settings S in another case: so an ordinal speaks its cardinals
abbrev pub in_case : ℕ → Settings → Settings
in_case case S = in_form S.number case S
