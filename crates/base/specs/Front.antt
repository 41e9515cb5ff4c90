-- A word at the front of a text.
-- Assumes nothing.
use Rattle.std.specs.Prelude.{ℕ, Bool, true, false, ◌&&◌, cond, Option, Some, None, List, [], ◌∷◌, eqb, length}

-- whether the text s begins with w
abbrev pub begins : List ℕ → List ℕ → Bool
begins [] s = true
begins (b ∷ w) [] = false
begins (b ∷ w) (c ∷ s) = eqb b c && begins w s

-- the length of w, where s begins with w
unfoldable pub passed : List ℕ → List ℕ → Option ℕ
passed w s = cond (begins w s) (Some (length w)) None
