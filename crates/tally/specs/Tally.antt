-- A tally as a value (02, W4, "A spoken tally").
-- Assumes nothing.
use Rattle.std.specs.Prelude.{ℕ, ◌+◌, ◌*◌, Bool, false, cond, ◌||◌, List, [], ◌∷◌, eqb, replicate}
use Rattle.uk_money.specs.Currencies.{Currency}
use Rattle.tally.specs.declared.Place.{Place}

-- "up to 64 amounts"
abbrev pub most_amounts : ℕ
most_amounts = 64

-- the last item number: "item number 4,294,967,295"
abbrev pub last_item : ℕ
last_item = 4294967295

-- a place has an amount, its whole part and its hundredths, "under its own item number"; a free place has the item number 0, which is none, and no amount
abbrev pub free_place : Place
free_place = record { item = 0; whole = 0; hundredths = 0 }

-- "A tally has one currency", has given so many item numbers, "counted up from 1", and has its amounts in places
pub record Tally : Type 0 where
  pub currency : Currency
  pub given : ℕ
  pub places : List Place

-- a tally as an opening call "gives it empty"
abbrev pub empty_tally : Currency → Tally
empty_tally c = record { currency = c; given = 0; places = replicate most_amounts free_place }

-- an amount in hundredths
abbrev pub in_hundredths : ℕ → ℕ → ℕ
in_hundredths whole hundredths = 100 * whole + hundredths

-- the sum of the amounts in some places, in hundredths
abbrev pub sum_in : List Place → ℕ
sum_in [] = 0
sum_in (p ∷ ps) = in_hundredths p.whole p.hundredths + sum_in ps

-- one of these places has this item number
abbrev pub is_under : ℕ → List Place → Bool
is_under i [] = false
is_under i (p ∷ ps) = eqb p.item i || is_under i ps

-- the places with q in the place of the first that has this item number
abbrev pub exchanged : ℕ → Place → List Place → List Place
exchanged i q [] = []
exchanged i q (p ∷ ps) = cond (eqb p.item i) (q ∷ ps) (p ∷ exchanged i q ps)
