-- What the reader of money promises, by the grammar alone (01, "Phrase grammar and reader").
-- Assumes nothing.
use Rattle.std.specs.Prelude.{ℕ, ◌<◌, ◌≡◌, List, Option, Some, None}
use Rattle.figures.specs.Groups.{total}
use Rattle.settings.specs.Settings.{Settings}
use Rattle.uk_money.specs.Currencies.{Currency}
use Rattle.uk_money.specs.MoneyGrammar.{SaysMoney}
use Rattle.uk_money_read.specs.declared.Amount.{Amount}

-- the answer r to the bytes s is right: an amount where they are one, none where they are none
pub record ReadMoney (S : Settings) (c : Currency) (s : List ℕ) (r : Option Amount) : Type 0 where
  pub reads : (amount : Amount) → r ≡ Some amount → SaysMoney S c s (total amount.whole.groups) amount.hundredths × (amount.hundredths < 100)
  pub refuses : r ≡ None → (n h : ℕ) → SaysMoney S c s n h → ⊥
