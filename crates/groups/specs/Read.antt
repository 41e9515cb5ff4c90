-- What a reader of numbers promises, by a grammar alone (01, "Phrase grammar and reader"). `Says` is what the grammar says of the bytes that are
-- read: that they are a sentence with this sign and this number.
-- Assumes nothing.
use Rattle.std.specs.Prelude.{◌≡◌, ℕ, Bool, cond, not, ◌&&◌, Option, Some, None, eqb}
use Rattle.figures.specs.Groups.{total}
use Rattle.groups.specs.declared.number.Number.{Number}
use Rattle.groups.specs.declared.figure.Figure.{Figure}

-- the answer to bytes that are, or are not, the phrase of a number with this sign: 0 has none
abbrev pub read_of : {N : ℕ} → Bool → Bool → Number N → Option (Figure N)
read_of stands minus number = cond stands (Some (record { minus = minus && not (eqb (total number.groups) 0); number = number })) None

-- what was read into a number that was lent: its sign, or nothing
abbrev pub read_in : {N : ℕ} → Option Bool → Number N → Option (Figure N)
read_in None number = None
read_in (Some minus) number = Some (record { minus = minus; number = number })

-- the answer r is right: something is read where the bytes are a sentence with that sign and number, nothing where they are none
pub record ReadOf {N : ℕ} (Says : Bool → ℕ → Type 0) (r : Option (Figure N)) : Type 0 where
  pub reads : (figure : Figure N) → r ≡ Some figure → Says figure.minus (total figure.number.groups)
  pub refuses : r ≡ None → (minus : Bool) (n : ℕ) → Says minus n → ⊥
