-- A text with a sign in place of each apostrophe U+02BC.
-- Assumes nothing.
use Rattle.std.specs.Prelude.{ℕ, cond, ◌&&◌, List, [], ◌∷◌, ◌++◌, eqb}

-- the two bytes of U+02BC
abbrev pub apostrophe_lead : ℕ
apostrophe_lead = 202

abbrev pub apostrophe_trail : ℕ
apostrophe_trail = 188

-- a text with a sign in place of each pair of them
unfoldable pub replaced : List ℕ → List ℕ → List ℕ
replaced sign [] = []
replaced sign (b ∷ []) = b ∷ []
replaced sign (b ∷ c ∷ s) = cond (eqb b apostrophe_lead && eqb c apostrophe_trail) (sign ++ replaced sign s) (b ∷ replaced sign (c ∷ s))
