-- What the reader makes of any bytes: the meanings of their words, added up. This is a guess, and lenient; it is held against the phrase of the
-- guessed number afterwards. Private to this crate: the reader's promise is stated by the grammar.
-- Assumes nothing.
use Rattle.std.specs.Prelude.{ℕ, zero, suc, ◌+◌, ◌-◌, ◌*◌, ◌%◌, Bool, false, cond, ◌&&◌, List, [], ◌∷◌, ◌++◌, map, eqb, ltb, drop}
use Rattle.base.specs.Join.{Word}
use Rattle.tokens.specs.Tokens.{split, key}
use Rattle.fr.specs.Rules.{french_orders}
use Rattle.fr_meanings.specs.Meanings.{meaning_of}

-- the meaning of a word: 1 to 100 a number, 1000 + k the scale word of order k, 2001 the minus word, 0 any other
abbrev pub meant : Word → ℕ
meant w = meaning_of (key w)

-- the meanings of a text's words
unfoldable pub meanings : List ℕ → List ℕ
meanings s = map meant (split s)

-- one more word of a number below a hundred, of which c is read; `vingt` after four is eighty
abbrev pub grow : ℕ → ℕ → ℕ
grow c m = cond (eqb c 4 && eqb m 20) 80 ((c + m) % 100)

-- how many hundreds `cent` is after c: 1 where nothing stands before it
abbrev pub times : ℕ → ℕ
times c = cond (eqb c 0) 1 (c % 10)

-- how many of its scale a scale word is after the number v: 1 where nothing stands before it
abbrev pub at_least_one : ℕ → ℕ
at_least_one v = cond (eqb v 0) 1 v

-- a group's value and order, and the meanings behind it
pub record Group : Type 0 where
  pub value : ℕ
  pub order : ℕ
  pub rest : List ℕ

-- the group of these
abbrev pub guess : ℕ → ℕ → List ℕ → Group
guess v k ms = record { value = v; order = k; rest = ms }

-- the group at the front, after h hundreds and c: a scale word ends it
unfoldable pub seems : ℕ → ℕ → List ℕ → Group
seems h c [] = guess (100 * h + c) 0 []
seems h c (m ∷ ms) = cond (ltb 100 m) (guess (at_least_one (100 * h + c)) (m - 1000) ms) (cond (eqb m 100) (seems (times c) 0 ms) (seems h (grow c m) ms))

-- the groups below an order, the lowest first, where g is at the front
unfoldable pub groups_read : ℕ → Group → List ℕ
groups_read zero g = []
groups_read (suc k) g = cond (eqb g.order k) (groups_read k (seems 0 0 g.rest) ++ (g.value ∷ [])) (groups_read k g ++ (0 ∷ []))

-- whether the minus word is at the front
abbrev pub is_minus : List ℕ → Bool
is_minus [] = false
is_minus (m ∷ ms) = eqb m 2001

-- what is behind it, if it is there
abbrev pub behind_minus : List ℕ → List ℕ
behind_minus ms = cond (is_minus ms) (drop 1 ms) ms

-- the groups of a text
unfoldable pub guessed : List ℕ → List ℕ
guessed ms = groups_read french_orders (seems 0 0 ms)
