-- The apostrophe of the words (02, W2): the tables have U+02BC, as uk.rs has, and the sign that the settings choose is said for it.
-- Assumes nothing.
use Prim.Native.Char.{Char, code}
use Rattle.std.specs.Prelude.{ℕ, cond, List, [] as []ᴸ, ◌∷◌ as ◌∷ᴸ◌, map, eqb, get_or}
use Prim.Native.String.{String, [], ◌∷◌}
use Rattle.base.specs.Utf8.{encode}

-- the signs in the order of their numbers: "0 for U+02BC, 1 for U+2019, 2 for the ASCII sign"
abbrev pub apostrophes : List Char
apostrophes = "ʼ" ∷ᴸ "’" ∷ᴸ "'" ∷ᴸ []ᴸ

-- a text with a sign in place of each U+02BC
abbrev pub with_apostrophe : Char → String → String
with_apostrophe sign [] = []
with_apostrophe sign (c ∷ s) = cond (eqb (code c) (code "ʼ")) sign c ∷ with_apostrophe sign s

-- a table's texts with each of the signs: the sign's number is the first index, those of the table follow
unfoldable pub by_apostrophe1 : List String → List (List String)
by_apostrophe1 table = map (λ sign. map (with_apostrophe sign) table) apostrophes

unfoldable pub by_apostrophe2 : List (List String) → List (List (List String))
by_apostrophe2 table = map (λ sign. map (map (with_apostrophe sign)) table) apostrophes

-- the sign with this number, and its bytes
abbrev pub sign_at : ℕ → Char
sign_at apostrophe = get_or apostrophes apostrophe "ʼ"

abbrev pub sign_bytes : ℕ → List ℕ
sign_bytes apostrophe = encode (code (sign_at apostrophe))
