-- What the reader makes of a text word by word, leniently: a sign and groups. It is compared with the grammar's own words afterwards, so
-- nothing here has to be believed.
-- Assumes nothing.
use Rattle.std.specs.Prelude.{ℕ, zero, suc, ◌+◌, ◌-◌, ◌%◌, Bool, false, cond, List, [], ◌∷◌, ◌++◌, eqb, ltb}
use Rattle.base.specs.Join.{Word}
use Rattle.tokens.specs.Tokens.{key}
use Rattle.uk_meanings.specs.Meanings.{meaning_of}

-- what a word means, whatever the settings
abbrev pub mean : Word → ℕ
mean w = meaning_of (key w)

-- a group's value, its order, and the words behind it
pub record Taken : Type 0 where
  pub value : ℕ
  pub order : ℕ
  pub rest : List Word

-- number words are added up to a scale noun, which is taken too, or up to a word that is none, or the end
unfoldable pub taken : ℕ → List Word → Taken
taken v [] = record { value = v; order = 0; rest = [] }
taken v (w ∷ ws) =
    cond (eqb (mean w) 0) (record { value = v; order = 0; rest = w ∷ ws })
    (cond (ltb 999 (mean w)) (record { value = v; order = mean w - 1000; rest = ws }) (taken ((v + mean w) % 1000) ws))

-- the groups of the orders below k, the lowest first: 0 where the next group is of another order
unfoldable pub sums : ℕ → List Word → List ℕ
sums zero ws = []
sums (suc k) ws = cond (eqb (taken 0 ws).order k) (sums k (taken 0 ws).rest ++ ((taken 0 ws).value ∷ [])) (sums k ws ++ (0 ∷ []))

-- the words behind them
unfoldable pub left : ℕ → List Word → List Word
left zero ws = ws
left (suc k) ws = cond (eqb (taken 0 ws).order k) (left k (taken 0 ws).rest) (left k ws)

-- whether the minus word stands first
abbrev pub signed : List Word → Bool
signed [] = false
signed (w ∷ ws) = eqb (mean w) 2001

-- the words without it
abbrev pub after_minus : List Word → List Word
after_minus [] = []
after_minus (w ∷ ws) = cond (eqb (mean w) 2001) ws (w ∷ ws)
