-- Two texts compared.
-- Assumes nothing.
use Rattle.std.specs.Prelude.{ℕ, Bool, true, false, ◌&&◌, List, [], ◌∷◌, eqb}

-- whether two texts are the same bytes
abbrev pub same_text : List ℕ → List ℕ → Bool
same_text [] [] = true
same_text [] (b ∷ s) = false
same_text (a ∷ w) [] = false
same_text (a ∷ w) (b ∷ s) = eqb a b && same_text w s
