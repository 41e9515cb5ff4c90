-- What the code decides before a tally is changed. No call's answer is defined by it.
-- Assumes nothing.
use Rattle.std.specs.Prelude.{ℕ, Result, Ok, Err, ◌≤◌, ◌<◌, ◌≡◌, List, [], ◌∷◌, ◌++◌, length, get_or, set, drop}
use Rattle.base.specs.Answer.{sum_too_large, first_of, Spelling, replied, Answers}
use Rattle.base.specs.Refused.{refusal_number, refusal_length}
use Rattle.base.specs.declared.Answer.{Answer}
use Rattle.base.specs.declared.Refusal.{Refusal}
use Rattle.base.specs.Buffer.{over}
use Rattle.base.specs.Bytes.{low_bytes}
use Rattle.settings.specs.Settings.{Settings}
use Rattle.uk_money.specs.Rows.{currency_at}
use Rattle.tally.specs.Tally.{sum_in}
use Rattle.tally.specs.Layout.{places_bytes, places_in}
use Rattle.tally.specs.declared.Place.{Place}
use Rattle.tally_calls.specs.TallyCalls.{sum_phrase, passes_limit, Move}
use Rattle.tally_calls.specs.declared.deciding.Change.{Change}
use Rattle.tally_calls.specs.declared.Tallied.{Tallied}

-- the places that lie in a tally's bytes, with another one in one of them
abbrev pub places_with : ℕ → Place → List ℕ → List Place
places_with at place ts = set (places_in 64 (drop 5 ts)) at place

-- what speaking their sum comes to, past the refusals that come before its own
abbrev pub weighing : Settings → ℕ → ℕ → Place → List ℕ → Spelling
weighing S currency at place ts =
    record { refusal = first_of ((passes_limit (sum_in (places_with at place ts)), sum_too_large) ∷ []); phrase = sum_phrase S (currency_at currency) (sum_in (places_with at place ts)) }

-- the answer of a call that comes to this change, or is refused
abbrev pub change_answer : Result Change Refusal → Answer
change_answer (Ok d) = record { number = 0; length = d.length }
change_answer (Err refusal) = record { number = refusal_number refusal; length = refusal_length refusal }

-- what a host gets of it: the item number is 0 on a refusal
abbrev pub tallied_of : Result Change Refusal → Tallied
tallied_of (Ok d) = record { refusal = 0; item = d.place.item; length = d.length }
tallied_of (Err refusal) = record { refusal = refusal_number refusal; item = 0; length = refusal_length refusal }

-- the bytes ts of a tally with a change stored
abbrev pub stored_bytes : Change → List ℕ → List ℕ
stored_bytes d ts = over ts (get_or ts 0 0 ∷ (low_bytes 4 d.given ++ places_bytes (places_with d.at d.place ts)))

-- the same, if the change is not refused
abbrev pub changed : Result Change Refusal → List ℕ → List ℕ
changed (Ok d) ts = stored_bytes d ts
changed (Err refusal) ts = ts

-- the change d can be stored, and is what the call does to the tally
pub record Settles (d : Change) (ts : List ℕ) (move : Move) : Type 0 where
  pub item_is : d.place.item ≡ move.report.item
  pub place_below : d.at < 64
  pub long : 837 ≤ length ts
  pub after : stored_bytes d ts ≡ over ts move.after

-- this is what the call decides on the tally ts, with the buffer xs left as ys
pub record Prepares (decided : Result Change Refusal) (ts xs ys : List ℕ) (move : Move) : Type 0 where
  pub weighs : Answers (change_answer decided) xs ys (replied move.report.spelling xs)
  pub settles : (d : Change) → decided ≡ Ok d → Settles d ts move
