-- The form of a line (01, "The program phrases"): words divided by single spaces, the names of kinds, languages and settings, and texts.
-- Assumes nothing.
use Rattle.std.specs.Prelude.{ℕ, suc, ◌-◌, Bool, true, cond, not, ◌&&◌, List, [], ◌∷◌, eqb, length, get_or, take, Option as OptionOf, Some, None}
use Prim.Native.String.{String}
use Rattle.std.proofs.Math.Option.{Option, none, some}
use Rattle.base.specs.Answer.{Spelling}
use Rattle.base.specs.Divide.{divided}
use Rattle.base.specs.Join.{Word}
use Rattle.base.specs.Signs.{space, opening_bracket, closing_bracket}
use Rattle.base.specs.Utf8.{utf8}
use Rattle.base.specs.Same.{same_text}
use Rattle.phrases_forms.specs.declared.Kind.{Kind}
use Rattle.phrases_forms.specs.declared.Kind.TheVariants.{Card, Ord, Num, Year, Money}
use Rattle.phrases_forms.specs.declared.Language.{Language}
use Rattle.phrases_forms.specs.declared.Language.TheVariants.{Ukrainian, French}

-- the words of a line ("Single spaces"); brackets belong to the words that they open or close
abbrev pub words_of : List ℕ → List Word
words_of s = divided space s

-- the place of a word among names, from 0 on; how many they are where it is none of them
abbrev pub name_place : List String → Word → ℕ
name_place [] w = 0
name_place (n ∷ ns) w = cond (same_text (utf8 n) w) 0 (suc (name_place ns w))

-- "Kinds: card, ord, num, year, money", with the bracket that opens the form
unfoldable pub kind_of : Word → OptionOf Kind
kind_of w =
    cond (same_text (utf8 "(card") w) (Some Card)
    (cond (same_text (utf8 "(ord") w) (Some Ord)
    (cond (same_text (utf8 "(num") w) (Some Num)
    (cond (same_text (utf8 "(year") w) (Some Year)
    (cond (same_text (utf8 "(money") w) (Some Money) None))))

-- the language, with the bracket that opens the settings
unfoldable pub language_of : Word → OptionOf Language
language_of w = cond (same_text (utf8 "(uk") w) (Some Ukrainian) (cond (same_text (utf8 "(fr") w) (Some French) None)

-- "`(uk m sing nom)` with m f n, sing plur, nom gen dat acc ins loc": 01's setting numbers, out of range for any other word; the gender
unfoldable pub gender_of : Word → ℕ
gender_of w = name_place ("m" ∷ "f" ∷ "n" ∷ []) w

-- the grammatical number
unfoldable pub grammatical_number_of : Word → ℕ
grammatical_number_of w = name_place ("sing" ∷ "plur" ∷ []) w

-- the case, with the bracket that closes the settings
unfoldable pub case_of : Word → ℕ
case_of w = name_place ("nom)" ∷ "gen)" ∷ "dat)" ∷ "acc)" ∷ "ins)" ∷ "loc)" ∷ []) w

-- "`(fr m old FR)` with m f, old new", and the regions of "From the repository, and added"; feminine or not
unfoldable pub feminine_of : Word → ℕ
feminine_of w = name_place ("m" ∷ "f" ∷ []) w

-- reformed or not
unfoldable pub reformed_of : Word → ℕ
reformed_of w = name_place ("old" ∷ "new" ∷ []) w

-- the region, with the bracket that closes the settings
unfoldable pub region_of : Word → ℕ
region_of w = name_place ("FR)" ∷ "BE)" ∷ "CH)" ∷ []) w

-- no space and no bracket
abbrev pub free : List ℕ → Bool
free [] = true
free (b ∷ s) = (not (eqb b space) && (not (eqb b opening_bracket) && not (eqb b closing_bracket))) && free s

-- "runs of one or more bytes other than space and bracket"
abbrev pub run : List ℕ → Bool
run s = not (eqb (length s) 0) && free s

-- what stands before the last byte
abbrev pub inner : List ℕ → List ℕ
inner s = take (length s - 1) s

-- whether that is a run, and the last byte the bracket that closes the form
abbrev pub closed : List ℕ → Bool
closed s = run (inner s) && eqb (get_or s (length s - 1) 0) closing_bracket

-- the last words of a form whose call takes a text: the text, with the bracket that closes the form
abbrev pub text_form : (List ℕ → Spelling) → List Word → Option Spelling
text_form call [] = none
text_form call (w ∷ []) = cond (closed w) (some (call (inner w))) none
text_form call (w ∷ v ∷ ws) = none

-- of one whose call takes a code and a text: "money (code before text)"
abbrev pub code_form : (List ℕ → List ℕ → Spelling) → List Word → Option Spelling
code_form call [] = none
code_form call (w ∷ ws) = cond (run w) (text_form (call w) ws) none
