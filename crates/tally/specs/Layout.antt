-- How a tally lies in bytes, and the tally that bytes hold (02, W4: "How a tally's bytes lie is left to you").
-- Assumes nothing.
use Rattle.std.specs.Prelude.{ℕ, zero, suc, cond, List, [], ◌∷◌, ◌++◌, ltb, length, get_or, take, drop}
use Rattle.std.proofs.Math.Option.{Option, none, some}
use Rattle.base.specs.Bytes.{num, low_bytes}
use Rattle.base.specs.Utf8.{utf8}
use Rattle.uk_money.specs.Currencies.{Currency, currencies}
use Rattle.uk_money.specs.Rows.{currency_at, code_place}
use Rattle.tally.specs.Tally.{most_amounts, Tally}
use Rattle.tally.specs.declared.Place.{Place}

-- a place in 13 bytes: item number, whole part, hundredths, each number's lowest byte first; and places, one behind the other
abbrev pub place_bytes : Place → List ℕ
place_bytes p = low_bytes 4 p.item ++ (low_bytes 8 p.whole ++ low_bytes 1 p.hundredths)

abbrev pub places_bytes : List Place → List ℕ
places_bytes [] = []
places_bytes (p ∷ ps) = place_bytes p ++ places_bytes ps

-- a currency's number: its place in from_str's order, from 1 on
abbrev pub currency_number : Currency → ℕ
currency_number c = suc (code_place (utf8 c.code))

-- a tally: its currency's number, the item numbers given, its places
abbrev pub tally_bytes : Tally → List ℕ
tally_bytes T = low_bytes 1 (currency_number T.currency) ++ (low_bytes 4 T.given ++ places_bytes T.places)

-- the bytes of a tally
abbrev pub tally_size : ℕ
tally_size = 837

-- back: the place that lies at the front of some bytes, and so many of them
abbrev pub place_in : List ℕ → Place
place_in b = record { item = num (take 4 b); whole = num (take 8 (drop 4 b)); hundredths = num (take 1 (drop 12 b)) }

unfoldable pub places_in : ℕ → List ℕ → List Place
places_in zero b = []
places_in (suc k) b = place_in b ∷ places_in k (drop 13 b)

-- the currency with this number, if there is one
abbrev pub numbered_currency : ℕ → Option Currency
numbered_currency zero = none
numbered_currency (suc k) = cond (ltb k (length currencies)) (some (currency_at k)) none

-- the tally of this currency that lies in some bytes; in none there is none
abbrev pub tally_of : Option Currency → List ℕ → Option Tally
tally_of none b = none
tally_of (some c) b = some (record { currency = c; given = num (take 4 (drop 1 b)); places = places_in most_amounts (drop 5 b) })

-- the tally that bytes hold: none if they are too few, or if the first is no currency's number. All others hold one, also such as no call made: of those
-- "only demand 1 is asked"
abbrev pub tally_in : List ℕ → Option Tally
tally_in b = cond (ltb (length b) tally_size) none (tally_of (numbered_currency (get_or b 0 0)) b)
