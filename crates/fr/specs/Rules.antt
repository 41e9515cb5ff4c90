-- French, rule by rule as 01 has it ("French"): the words of a group, an ordinal's last word, and what the language has for its cardinals. A word may
-- have a hyphen or ` et ` in it, as in fr.rs. Orders count groups from 0; g is a group, h, t and u are its hundreds, tens and units digits.
-- Assumes nothing.
use Rattle.std.specs.Prelude.{ℕ, zero, suc, ◌-◌, ◌/◌, ◌%◌, Bool, true, false, cond, not, ◌&&◌, ◌||◌, List, [], ◌∷◌, ◌++◌, eqb}
use Rattle.base.specs.Utf8.{utf8, form1}
use Rattle.base.specs.Join.{Word}
use Rattle.base.specs.Signs.{space, hyphen, letter_e}
use Rattle.settings.specs.Settings.{feminine, new_spelling, region_fr, region_ch, Settings}
use Rattle.cardinals.specs.Lexicon.{Lexicon}
use Rattle.fr.specs.FrTables.{units, tens, teens, megas}

-- the feminine is spoken
abbrev pub is_feminine : Settings → Bool
is_feminine S = eqb S.gender feminine

-- the spelling is reformed
abbrev pub is_reformed : Settings → Bool
is_reformed S = eqb S.reformed new_spelling

-- the region is FR
abbrev pub in_fr : Settings → Bool
in_fr S = eqb S.region region_fr

-- it is CH
abbrev pub in_ch : Settings → Bool
in_ch S = eqb S.region region_ch

-- the order is 0
abbrev pub is_lowest : ℕ → Bool
is_lowest zero = true
is_lowest (suc k) = false

-- the order is 1, that of `mille`
abbrev pub is_mille : ℕ → Bool
is_mille zero = false
is_mille (suc zero) = true
is_mille (suc (suc k)) = false

-- the byte between words: "joined by a space, or by `-` if reformed"
abbrev pub french_joiner : Settings → ℕ
french_joiner S = cond (is_reformed S) hyphen space

-- `cents` if nothing follows in the group and the order isn't 1, else `cent`; below is the group without its hundreds
unfoldable pub cent_word : ℕ → ℕ → Word
cent_word order below = cond (eqb below 0 && not (is_mille order)) (utf8 "cents") (utf8 "cent")

-- a hundreds digit of 1 writes `cent`; one above 1 writes its unit, then `cents` or `cent`
unfoldable pub hundred_words : ℕ → ℕ → ℕ → List Word
hundred_words order zero below = []
hundred_words order (suc zero) below = utf8 "cent" ∷ []
hundred_words order (suc (suc h)) below = form1 units (suc h) ∷ cent_word order below ∷ []

-- tens 7 and 9 in FR: the tens word below and a teen
abbrev pub counts_on : Settings → ℕ → Bool
counts_on S t = in_fr S && (eqb t 7 || eqb t 9)

-- the tens word: BE and CH have `septante`, `nonante`; CH has `huitante`
unfoldable pub ten_word : Settings → ℕ → Word
ten_word S t =
    cond (eqb t 7 && not (in_fr S)) (utf8 "septante")
    (cond (eqb t 8 && in_ch S) (utf8 "huitante") (cond (eqb t 9 && not (in_fr S)) (utf8 "nonante") (form1 tens (t - 1))))

-- tens 8 outside CH is `quatre-vingt`
abbrev pub four_twenties : Settings → ℕ → Bool
four_twenties S t = eqb t 8 && not (in_ch S)

-- the tens word where units is 0: with tens 8 outside CH `quatre-vingts`, but `quatre-vingt` at order 1
unfoldable pub round_word : Settings → ℕ → ℕ → Word
round_word S order t = cond (four_twenties S t && not (is_mille order)) (utf8 "quatre-vingts") (ten_word S t)

-- whether `et` stands between a tens word and a unit or teen: if the units digit is 1, but not after 80 (outside CH) and 90 in FR
abbrev pub takes_et : Settings → ℕ → ℕ → Bool
takes_et S t u = eqb u 1 && not (four_twenties S t || (eqb t 9 && in_fr S))

-- from a tens word to a unit or teen: ` et ` (reformed `-et-`), otherwise a hyphen
unfoldable pub link : Settings → ℕ → ℕ → Word
link S t u = cond (takes_et S t u) (cond (is_reformed S) (utf8 "-et-") (utf8 " et ")) (utf8 "-")

-- feminine `une` only for unit 1 at order 0, never in a teen
abbrev pub is_une : Settings → ℕ → ℕ → Bool
is_une S order u = is_lowest order && (is_feminine S && eqb u 1)

-- the unit's word
unfoldable pub unit_word : Settings → ℕ → ℕ → Word
unit_word S order u = cond (is_une S order u) (utf8 "une") (form1 units (u - 1))

-- a tens word with a unit, or in FR the tens word below with a teen; in fr.rs this is one word, and so it is not joined like others
unfoldable pub pair_word : Settings → ℕ → ℕ → ℕ → Word
pair_word S order t u =
    cond (counts_on S t) (ten_word S (t - 1) ++ (link S t u ++ form1 teens u)) (ten_word S t ++ (link S t u ++ unit_word S order u))

-- what the tens and units digits write; tens 1: `TEENS`
unfoldable pub tens_words : Settings → ℕ → ℕ → ℕ → List Word
tens_words S order zero zero = []
tens_words S order zero (suc u) = unit_word S order (suc u) ∷ []
tens_words S order (suc zero) u = form1 teens u ∷ []
tens_words S order (suc (suc t)) zero = round_word S order (suc (suc t)) ∷ []
tens_words S order (suc (suc t)) (suc u) = pair_word S order (suc (suc t)) (suc u) ∷ []

-- a group's words before its scale word
abbrev pub number_words : Settings → ℕ → ℕ → List Word
number_words S order g = hundred_words order (g / 100 % 10) (g % 100) ++ tens_words S order (g / 10 % 10) (g % 10)

-- the name of an order above 0: "Scale word from `MEGAS`"
unfoldable pub mega_name : ℕ → Word
mega_name order = form1 megas (order - 1)

-- the scale word of a group g, "with `s` unless order 1 or the group is 1"
unfoldable pub scale_word : ℕ → ℕ → Word
scale_word order g = mega_name order ++ cond (is_mille order || eqb g 1) [] (utf8 "s")

-- order 0 has none
unfoldable pub scale_words : ℕ → ℕ → List Word
scale_words zero g = []
scale_words (suc k) g = scale_word (suc k) g ∷ []

-- a group's words; "A group of exactly 1 at order 1 writes no unit"
unfoldable pub french_group : Settings → ℕ → ℕ → List Word
french_group S order g = cond (is_mille order && eqb g 1) [] (number_words S order g) ++ scale_words order g

-- "Ordinal: .. a final `e` dropped": a text without it
unfoldable pub without_e : List ℕ → List ℕ
without_e [] = []
without_e (b ∷ []) = cond (eqb b letter_e) [] (b ∷ [])
without_e (b ∷ c ∷ s) = b ∷ without_e (c ∷ s)

-- "then `ième`": the ordinal's last word from the cardinal's
unfoldable pub nth : Word → Word
nth w = without_e w ++ utf8 "ième"

-- words with the last of them made an ordinal's
unfoldable pub nth_words : List Word → List Word
nth_words [] = []
nth_words (w ∷ []) = nth w ∷ []
nth_words (w ∷ v ∷ ws) = w ∷ nth_words (v ∷ ws)

-- how many orders its numbers have: those of 102 digits ("Number texts")
abbrev pub french_orders : ℕ
french_orders = 34

-- what French has for its cardinals: its orders, the joiner, "Zero is `zéro`; negative begins `moins`"
unfoldable pub french : Settings → Lexicon
french S = record {
  orders = french_orders;
  joiner = french_joiner S;
  zero_word = utf8 "zéro";
  minus_word = utf8 "moins";
  group_words = λ order g. french_group S order g;
}
