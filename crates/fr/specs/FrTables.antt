-- The tables of fr.rs as text, in its order: UNITS, TENS, TEENS, MEGAS (01, "French", names the last two).
-- Assumes nothing.
use Prim.Native.String.{String}
use Rattle.std.specs.Prelude.{List, [], ◌∷◌}

-- UNITS: 1 to 9
unfoldable pub units : List String
units = "un" ∷ "deux" ∷ "trois" ∷ "quatre" ∷ "cinq" ∷ "six" ∷ "sept" ∷ "huit" ∷ "neuf" ∷ []

-- TENS: 10, 20 to 90, as FR has them
unfoldable pub tens : List String
tens =
    "dix" ∷ "vingt" ∷ "trente" ∷ "quarante" ∷ "cinquante" ∷ "soixante" ∷ "soixante-dix" ∷ "quatre-vingt" ∷
    "quatre-vingt-dix" ∷ []

-- TEENS: 10 to 19
unfoldable pub teens : List String
teens =
    "dix" ∷ "onze" ∷ "douze" ∷ "treize" ∷ "quatorze" ∷ "quinze" ∷ "seize" ∷ "dix-sept" ∷ "dix-huit" ∷ "dix-neuf" ∷ []

-- MEGAS: the scale words of the orders 1 to 33
unfoldable pub megas : List String
megas =
    "mille" ∷ "million" ∷ "milliard" ∷ "billion" ∷ "billiard" ∷ "trillion" ∷ "trilliard" ∷ "quadrillion" ∷
    "quadrilliard" ∷ "quintillion" ∷ "quintilliard" ∷ "sextillion" ∷ "sextilliard" ∷ "septillion" ∷ "septilliard" ∷
    "octillion" ∷ "octilliard" ∷ "nonillion" ∷ "nonilliard" ∷ "décillion" ∷ "décilliard" ∷ "unodécillion" ∷
    "unodécilliard" ∷ "duodécillion" ∷ "duodécilliard" ∷ "trédécillion" ∷ "trédécilliard" ∷ "quattuordécillion" ∷
    "quattuordécilliard" ∷ "quindécillion" ∷ "quindécilliard" ∷ "sexdécillion" ∷ "sexdécilliard" ∷ []
