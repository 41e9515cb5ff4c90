-- The grammar of money, over words (01, "Phrase grammar and reader"). It knows nothing of speller or reader.
-- Assumes nothing.
use Rattle.std.specs.Prelude.{ℕ, ◌≤◌, ◌<◌, ◌≡◌, false, List, ◌++◌}
use Rattle.base.specs.Join.{Word, joined}
use Rattle.settings.specs.Settings.{in_gender, Settings}
use Rattle.figures.specs.Money.{money_limit}
use Rattle.cardinals.specs.Grammar.{Sentence}
use Rattle.uk.specs.Ukrainian.{ukrainian}
use Rattle.uk_money.specs.Nouns.{Name, agreed_name}
use Rattle.uk_money.specs.Currencies.{Currency}

-- a count of a unit: a cardinal without a minus, in the unit's gender, and the unit's name
pub data Counted (S : Settings) (name : Name) : List Word → ℕ → Type 0 where
  counted : {ws : List Word} {n : ℕ} → Sentence (ukrainian (in_gender name.gender S)) ws false n → Counted S name (ws ++ agreed_name S name n) n

-- an amount, its whole part and its hundredths: "zero stands only as a whole amount alone, and hundredths are 1 to 99"
pub data Amount (S : Settings) (c : Currency) : List Word → ℕ → ℕ → Type 0 where
  wholly : {ws : List Word} {n : ℕ} → Counted S c.main ws n → n ≤ money_limit → Amount S c ws n 0
  partly : {ws : List Word} {h : ℕ} → Counted S c.fraction ws h → 0 < h → h < 100 → Amount S c ws 0 h
  both : {us ws : List Word} {n h : ℕ} → Counted S c.main us n → 0 < n → n ≤ money_limit → Counted S c.fraction ws h → 0 < h → h < 100
      → Amount S c (us ++ ws) n h

-- bytes that are an amount with this whole part and these hundredths
pub record SaysMoney (S : Settings) (c : Currency) (s : List ℕ) (n h : ℕ) : Type 0 where
  pub words : List Word
  pub derives : Amount S c words n h
  pub bytes : s ≡ joined words
