-- The calls on a tally (02, W4, "A spoken tally"): what opening, adding and removing come to.
-- Assumes nothing.
use Rattle.std.specs.Prelude.{ℕ, zero, suc, ◌/◌, ◌%◌, ◌≡◌, Bool, true, not, ◌&&◌, ◌||◌, List, [], ◌∷◌, ◌++◌, ltb, eqb}
use Rattle.std.proofs.Math.Option.{Option, none, some}
use Rattle.base.specs.Answer.{wrong_code, tally_full, sum_too_large, not_held, first_of, Spelling, Reply, refused, bytes, number_of, length_of, buffer_of, replied}
use Rattle.base.specs.Buffer.{over}
use Rattle.settings.specs.Settings.{ukrainian_ranges}
use Rattle.settings.specs.Refused.{out_of_range}
use Rattle.settings.specs.Settings.{Settings}
use Rattle.figures.specs.Money.{whole_of, hundredths_of, money_limit}
use Rattle.figures.specs.Refusals.{amount_refusals}
use Rattle.uk_money.specs.Currencies.{Currency}
use Rattle.uk_money.specs.Codes.{currency_of, unknown}
use Rattle.uk_money.specs.Money.{amount_phrase}
use Rattle.tally.specs.Tally.{last_item, free_place, Tally, empty_tally, sum_in, is_under, exchanged}
use Rattle.tally.specs.Layout.{tally_bytes, tally_in}
use Rattle.tally.specs.declared.Place.{Place}
use Rattle.tally_calls.specs.declared.Tallied.{Tallied}

-- the bytes of a currency's empty tally; in none there are none
abbrev pub empty_bytes : Option Currency → List ℕ
empty_bytes none = []
empty_bytes (some c) = tally_bytes (empty_tally c)

-- opening a tally by a code: "2 if the code isn't valid"
abbrev pub opening : List ℕ → Spelling
opening code = record { refusal = first_of (unknown (currency_of code) ∷ []); phrase = empty_bytes (currency_of code) }

-- "the money phrase of that sum", which is in hundredths
abbrev pub sum_phrase : Settings → Currency → ℕ → List ℕ
sum_phrase S c sum = amount_phrase S c (sum / 100) (sum % 100)

-- "the whole part of the sum would pass the money limit"
abbrev pub passes_limit : ℕ → Bool
passes_limit sum = ltb money_limit (sum / 100)

-- what a call on a tally reports before a buffer is looked at: its refusal and its phrase, and the item number, 0 for none
pub record Report : Type 0 where
  pub spelling : Spelling
  pub item : ℕ

-- of adding a text, where the tally is full or is not, has given so many item numbers, and would have this sum
abbrev pub add_report : Settings → Currency → Bool → ℕ → ℕ → List ℕ → Report
add_report S c full given sum t = record {
  spelling = record { refusal = first_of (out_of_range (ukrainian_ranges S) ∷ (amount_refusals t ++ ((full, tally_full) ∷ (passes_limit sum, sum_too_large) ∷ []))); phrase = sum_phrase S c sum };
  item = suc given;
}

-- of removing an item, where an amount is held under its number or is not, and the tally would have this sum. With an amount less no sum passes the limit
-- that did not before: only bytes that no call made can have one that does
abbrev pub remove_report : Settings → Currency → Bool → ℕ → Report
remove_report S c held sum = record {
  spelling = record { refusal = first_of (out_of_range (ukrainian_ranges S) ∷ (not held, not_held) ∷ (passes_limit sum, sum_too_large) ∷ []); phrase = sum_phrase S c sum };
  item = 0;
}

-- of either, on bytes that hold no tally
abbrev pub no_tally_report : Settings → Report
no_tally_report S = record { spelling = record { refusal = first_of (out_of_range (ukrainian_ranges S) ∷ (true, wrong_code) ∷ []); phrase = [] }; item = 0 }

-- what a call on a tally comes to: its report, and the tally's bytes where it refuses nothing
pub record Move : Type 0 where
  pub report : Report
  pub after : List ℕ

-- "64 amounts are held or item number 4,294,967,295 has been given"
abbrev pub is_full : Tally → Bool
is_full T = not (is_under 0 T.places) || eqb T.given last_item

-- the amount of a text under the next item number
abbrev pub next_place : Tally → List ℕ → Place
next_place T t = record { item = suc T.given; whole = whole_of t; hundredths = hundredths_of t }

-- a tally with it in the first free place
abbrev pub with_amount : Tally → List ℕ → Tally
with_amount T t = record { currency = T.currency; given = suc T.given; places = exchanged 0 (next_place T t) T.places }

-- adding a text to a tally, if there is one
abbrev pub adding : Settings → Option Tally → List ℕ → Move
adding S none t = record { report = no_tally_report S; after = [] }
adding S (some T) t = record { report = add_report S T.currency (is_full T) T.given (sum_in (with_amount T t).places) t; after = tally_bytes (with_amount T t) }

-- an amount is held under this item number; 0 is none
abbrev pub is_held : ℕ → Tally → Bool
is_held i T = not (eqb i 0) && is_under i T.places

-- a tally whose place with this item number is free again
abbrev pub without_amount : Tally → ℕ → Tally
without_amount T i = record { currency = T.currency; given = T.given; places = exchanged i free_place T.places }

-- removing an item from a tally, if there is one
abbrev pub removing : Settings → Option Tally → ℕ → Move
removing S none i = record { report = no_tally_report S; after = [] }
removing S (some T) i = record { report = remove_report S T.currency (is_held i T) (sum_in (without_amount T i).places); after = tally_bytes (without_amount T i) }

-- a call on a tally: adding a text or removing an item, under any settings
pub data TallyCall : Type 0 where
  adds : Settings → List ℕ → TallyCall
  removes : Settings → ℕ → TallyCall

-- its settings
abbrev pub settings_of : TallyCall → Settings
settings_of (adds S t) = S
settings_of (removes S i) = S

-- what it comes to on the bytes ts of a tally
abbrev pub move_of : TallyCall → List ℕ → Move
move_of (adds S t) ts = adding S (tally_in ts) t
move_of (removes S i) ts = removing S (tally_in ts) i

-- the one where a reply refuses nothing, the other where it refuses
abbrev pub if_done : {A : Type 0} → Reply → A → A → A
if_done (bytes b) done otherwise = done
if_done (refused n l) done otherwise = otherwise

-- the answer r, with the phrase's buffer xs left as ys, is this report's; the item number is "0 on a refusal"
pub record Tallies (r : Tallied) (xs ys : List ℕ) (report : Report) : Type 0 where
  pub reported : r.refusal ≡ number_of (replied report.spelling xs)
  pub item_is : r.item ≡ if_done (replied report.spelling xs) report.item 0
  pub sized : r.length ≡ length_of (replied report.spelling xs)
  pub held : ys ≡ buffer_of xs (replied report.spelling xs)

-- the tally's bytes ts after a call, for a buffer xs: "A refused call leaves the tally unchanged"
abbrev pub tally_after : Move → List ℕ → List ℕ → List ℕ
tally_after move xs ts = if_done (replied move.report.spelling xs) (over ts move.after) ts
