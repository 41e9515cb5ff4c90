-- A text as its bytes in UTF-8, and the words of a table of texts as bytes.
-- Assumes nothing.
use Prim.Native.String.{String, [], ◌∷◌}
use Prim.Native.Char.{code}
use Rattle.std.specs.Prelude.{ℕ, ◌+◌, ◌/◌, ◌%◌, cond, List, [] as []ᴸ, ◌∷◌ as ◌∷ᴸ◌, ◌++◌, ltb, get_or}

-- the bytes of a code point below 2 ^ 16
abbrev pub encode : ℕ → List ℕ
encode n =
    cond (ltb n 128) (n ∷ᴸ []ᴸ)
    (cond (ltb n 2048) ((192 + n / 64) ∷ᴸ (128 + n % 64) ∷ᴸ []ᴸ)
    ((224 + n / 4096) ∷ᴸ (128 + n / 64 % 64) ∷ᴸ (128 + n % 64) ∷ᴸ []ᴸ))

-- the bytes of a text
abbrev pub utf8 : String → List ℕ
utf8 [] = []ᴸ
utf8 (c ∷ s) = encode (code c) ++ utf8 s

-- the bytes of an entry of a table of texts, by one, two or three indices; none past its end
unfoldable pub form1 : List String → ℕ → List ℕ
form1 t i = utf8 (get_or t i "")

unfoldable pub form2 : List (List String) → ℕ → ℕ → List ℕ
form2 t i j = utf8 (get_or (get_or t i []ᴸ) j "")

unfoldable pub form3 : List (List (List String)) → ℕ → ℕ → ℕ → List ℕ
form3 t i j k = utf8 (get_or (get_or (get_or t i []ᴸ) j []ᴸ) k "")
