-- The code's row of a unit's name: the places of its adjective's stem, 0 for none, and of its noun's, the number of the noun's class, and the
-- gender; and a code as one number. These only tie the code to the tables, but that a
-- tally keeps its currency's place (`currency_at`, `code_place`).
-- Assumes nothing.
use Rattle.std.specs.Prelude.{ℕ, zero, suc, ◌+◌, ◌*◌, ◌/◌, ◌%◌, ◌<◌, ◌≤◌, ◌≡◌, cond, List, [], ◌∷◌, ◌++◌, eqb, get_or, Option, Some, None}
use Rattle.base.specs.Join.{Word}
use Rattle.base.specs.Utf8.{utf8, form2}
use Rattle.base.specs.Same.{same_text}
use Rattle.words.specs.Part.{part}
use Rattle.uk.specs.Pool.{uk_pool}
use Rattle.uk_money.specs.Nouns.{Class, hard2, soft2, vowel1, hard1, adj, undeclined, hryvnia, kopiyka, endings, Name, masculine_name, name_forms}
use Rattle.settings.specs.Settings.{Settings}
use Rattle.uk_money.specs.Currencies.{Currency, currency, currencies}
use Rattle.uk_money.specs.declared.currency.CurrencyId.{CurrencyId}

-- the classes by their numbers
abbrev pub classes : List Class
classes = hard2 ∷ soft2 ∷ vowel1 ∷ hard1 ∷ adj ∷ undeclined ∷ hryvnia ∷ kopiyka ∷ []

-- the class with this number
abbrev pub class_at : ℕ → Class
class_at k = get_or classes k hard2

-- the adjective of a row with this place of its stem, if it has one
abbrev pub adjective_in : Settings → ℕ → List Word
adjective_in S zero = []
adjective_in S (suc a) = (part uk_pool (suc a) ++ form2 (endings adj) S.number S.case) ∷ []

-- the words of a row: the adjective, and the noun
abbrev pub forms_in : Settings → List ℕ → List Word
forms_in S row =
    adjective_in S (get_or row 0 0) ++
    ((part uk_pool (get_or row 1 0) ++ form2 (endings (class_at (get_or row 2 0))) S.number S.case) ∷ [])

-- the place among a class's endings of the form that the settings ask for
pub record FormAt (S : Settings) (place : ℕ) : Type 0 where
  pub number_is : place / 6 ≡ S.number
  pub case_is : place % 6 ≡ S.case

-- the row has a name's gender and words, and its numbers are in their ranges
pub record Row (name : Name) (row : List ℕ) : Type 0 where
  pub gender : name.gender ≡ get_or row 3 0
  pub forms : (S : Settings) → name_forms S name ≡ forms_in S row
  pub class_below : get_or row 2 0 < 8
  pub gender_below : get_or row 3 0 < 3

-- what stands past the end of the currencies
abbrev pub past : Currency
past = currency "" (masculine_name "" hard2) (masculine_name "" hard2)

-- the currency with a place in the list
abbrev pub currency_at : ℕ → Currency
currency_at place = get_or currencies place past

-- the place in a list of the currency with this code, from 0 on; the list's length where none has it
unfoldable pub code_place_in : List Currency → List ℕ → ℕ
code_place_in [] code = 0
code_place_in (c ∷ cs) code = cond (same_text (utf8 c.code) code) 0 (suc (code_place_in cs code))

-- the same among all 44
abbrev pub code_place : List ℕ → ℕ
code_place code = code_place_in currencies code

-- the currency with this code, if it is one
pub record CodedAt (code : List ℕ) (r : Option CurrencyId) : Type 0 where
  pub found : (id : CurrencyId) → r ≡ Some id → id.place ≡ code_place code
  pub none : r ≡ None → 44 ≤ code_place code

-- a code as one number, its first byte the lowest, with a 1 above the last
abbrev pub code_key : List ℕ → ℕ
code_key [] = 1
code_key (b ∷ s) = b + 256 * code_key s

-- the place of the currency whose code has this number
unfoldable pub place_by_key : List Currency → ℕ → ℕ
place_by_key [] key = 0
place_by_key (c ∷ cs) key = cond (eqb key (code_key (utf8 c.code))) 0 (suc (place_by_key cs key))
