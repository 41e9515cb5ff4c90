-- What the code says of places and sums. No call's answer is defined by it.
-- Assumes nothing.
use Rattle.std.specs.Prelude.{ℕ, suc, ◌/◌, ◌<◌, ◌≤◌, ◌≡◌, cond, List, [], ◌∷◌, eqb, length, get_or, Option, Some, None}
use Rattle.std.proofs.Math.Option.{some, none as nothing}
use Rattle.uk_money.specs.Rows.{currency_at}
use Rattle.uk_money.specs.declared.currency.CurrencyId.{CurrencyId}
use Rattle.tally.specs.Layout.{tally_of, tally_in}
use Rattle.figures.specs.Money.{money_limit}
use Rattle.tally.specs.Tally.{in_hundredths}
use Rattle.tally.specs.declared.Place.{Place}
use Rattle.tally.specs.declared.Sum.{Sum}

-- which of some places, from 0 on, is the first with this item number; their count where none has it
unfoldable pub place_under : ℕ → List Place → ℕ
place_under i [] = 0
place_under i (p ∷ ps) = cond (eqb p.item i) 0 (suc (place_under i ps))

-- the first of some 64 places with this item number, if one has it
pub record FoundUnder (item : ℕ) (places : List Place) (r : Option ℕ) : Type 0 where
  pub found : (i : ℕ) → r ≡ Some i → (i < 64) × (place_under item places ≡ i)
  pub none : r ≡ None → place_under item places ≡ 64

-- the currency of the tally that the bytes ts hold, if they hold one
pub record CurrencyIn (ts : List ℕ) (r : Option CurrencyId) : Type 0 where
  pub found : (id : CurrencyId) → r ≡ Some id → (837 ≤ length ts) × (get_or ts 0 0 ≡ suc id.place) × (tally_in ts ≡ tally_of (some (currency_at id.place)) ts)
  pub none : r ≡ None → tally_in ts ≡ nothing

-- r is the sum n, in hundredths, or none where its whole part is above the limit
pub record IsSum (r : Option Sum) (n : ℕ) : Type 0 where
  pub if_within : (sum : Sum) → r ≡ Some sum → in_hundredths sum.whole sum.hundredths ≡ n
  pub if_beyond : r ≡ None → money_limit < n / 100
