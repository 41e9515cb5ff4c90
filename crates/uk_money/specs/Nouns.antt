-- The names of units of money: how their nouns are declined (01, "Ukrainian money"; the nouns' tables are uk.rs's).
-- Assumes nothing.
use Rattle.std.specs.Prelude.{ℕ, ◌/◌, ◌%◌, List, [], ◌∷◌, ◌++◌, map}
use Prim.Native.String.{String}
use Rattle.base.specs.Join.{Word}
use Rattle.base.specs.Utf8.{utf8, form2}
use Rattle.settings.specs.Settings.{masculine, feminine, Settings}
use Rattle.uk.specs.Ukrainian.{agreed}
use Rattle.uk_money.specs.NounTables.{noun2st_group_hard_declensions, noun2st_group_soft_declensions, noun1st_group_soft_declensions_vowel, noun1st_group_hard_declensions, adjective_hard_masculine, hryvnias, kopiykas}

-- the classes of endings: those of долар, юань, рупія and єна, of a hard adjective, none for a noun that is not declined, and two nouns that
-- are written out whole and have an empty stem
pub data Class : Type 0 where
  hard2 : Class
  soft2 : Class
  vowel1 : Class
  hard1 : Class
  adj : Class
  undeclined : Class
  hryvnia : Class
  kopiyka : Class

-- the endings of a class, by grammatical number, then case
unfoldable pub endings : Class → List (List String)
endings hard2 = noun2st_group_hard_declensions
endings soft2 = noun2st_group_soft_declensions
endings vowel1 = noun1st_group_soft_declensions_vowel
endings hard1 = noun1st_group_hard_declensions
endings adj = adjective_hard_masculine
endings undeclined = []
endings hryvnia = hryvnias
endings kopiyka = kopiykas

-- a noun or an adjective: its stem, and the class of its endings
pub record Declined : Type 0 where
  pub stem : String
  pub class : Class

-- one from its stem and its class
abbrev pub declined : String → Class → Declined
declined stem class = record { stem = stem; class = class }

-- the form of a word in a grammatical number and case
unfoldable pub form_of : Settings → Declined → Word
form_of S n = utf8 n.stem ++ form2 (endings n.class) S.number S.case

-- the name of a unit: its gender, and its words, a noun or an adjective and a noun
pub record Name : Type 0 where
  pub gender : ℕ
  pub words : List Declined

-- a masculine noun as a name; a feminine one; a masculine adjective and noun
abbrev pub masculine_name : String → Class → Name
masculine_name stem class = record { gender = masculine; words = declined stem class ∷ [] }

abbrev pub feminine_name : String → Class → Name
feminine_name stem class = record { gender = feminine; words = declined stem class ∷ [] }

abbrev pub masculine_pair : String → Class → String → Class → Name
masculine_pair s c t d = record { gender = masculine; words = declined s c ∷ declined t d ∷ [] }

-- the words of a name in a grammatical number and case
unfoldable pub name_forms : Settings → Name → List Word
name_forms S name = map (λ n. form_of S n) name.words

-- the name of a unit as it agrees with the count n: "agreement as above by the last two digits"
unfoldable pub agreed_name : Settings → Name → ℕ → List Word
agreed_name S name n = name_forms (agreed (n / 10 % 10) (n % 10) S) name
