-- What a list of calls on one tally comes to, computed from that list alone (02, W4: "After any list of adds and removes from an empty tally, refused ones
-- included, the total is the sum of amounts added and not removed, computed from that list, and its phrase is the money phrase of that sum").
-- Assumes nothing.
use Rattle.std.specs.Prelude.{ℕ, suc, ◌+◌, Bool, false, cond, not, ◌||◌, List, [], ◌∷◌, ltb, eqb, length}
use Rattle.base.specs.Answer.{replied}
use Rattle.figures.specs.Money.{whole_of, hundredths_of}
use Rattle.uk_money.specs.Currencies.{Currency}
use Rattle.tally.specs.Tally.{most_amounts, last_item, in_hundredths}
use Rattle.tally_calls.specs.TallyCalls.{Report, add_report, remove_report, TallyCall, adds, removes, if_done}

-- the amounts added and not removed, in hundredths, each after its item number, the newest first
abbrev pub Amounts : Type 0
Amounts = List (ℕ × ℕ)

-- their sum
abbrev pub sum_of : Amounts → ℕ
sum_of [] = 0
sum_of (a ∷ rest) = a.1 + sum_of rest

-- one of them has this item number
abbrev pub has_item : ℕ → Amounts → Bool
has_item i [] = false
has_item i (a ∷ rest) = eqb a.0 i || has_item i rest

-- the others
abbrev pub without_item : ℕ → Amounts → Amounts
without_item i [] = []
without_item i (a ∷ rest) = cond (eqb a.0 i) (without_item i rest) (a ∷ without_item i rest)

-- what the calls so far leave: how many item numbers they have given, and the amounts
pub record Sheet : Type 0 where
  pub given : ℕ
  pub amounts : Amounts

-- what one more call comes to: its report, and what is left where it refuses nothing
pub record Outcome : Type 0 where
  pub report : Report
  pub sheet : Sheet

-- the amounts with that of a text under the next item number
abbrev pub with_next : Sheet → List ℕ → Amounts
with_next s t = (suc s.given, in_hundredths (whole_of t) (hundredths_of t)) ∷ s.amounts

-- "64 amounts are held or item number 4,294,967,295 has been given"
abbrev pub is_sheet_full : Sheet → Bool
is_sheet_full s = not (ltb (length s.amounts) most_amounts) || eqb s.given last_item

-- each call, by the rules that hold of a tally
abbrev pub outcome : Currency → Sheet → TallyCall → Outcome
outcome c s (adds S t) = record { report = add_report S c (is_sheet_full s) s.given (sum_of (with_next s t)) t; sheet = record { given = suc s.given; amounts = with_next s t } }
outcome c s (removes S i) = record { report = remove_report S c (has_item i s.amounts) (sum_of (without_item i s.amounts)); sheet = record { given = s.given; amounts = without_item i s.amounts } }

-- what a list of calls leaves, the newest first, each with the buffer that was lent for its phrase: a refused one leaves all as it was
unfoldable pub sheet_after : Currency → List (TallyCall × List ℕ) → Sheet
sheet_after c [] = record { given = 0; amounts = [] }
sheet_after c (e ∷ es) = if_done (replied (outcome c (sheet_after c es) e.0).report.spelling e.1) (outcome c (sheet_after c es) e.0).sheet (sheet_after c es)

-- the item number that one more call reports after that list
abbrev pub item_after : Currency → List (TallyCall × List ℕ) → TallyCall × List ℕ → ℕ
item_after c es e = if_done (replied (outcome c (sheet_after c es) e.0).report.spelling e.1) (outcome c (sheet_after c es) e.0).report.item 0
