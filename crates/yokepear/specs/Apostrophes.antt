-- The Ukrainian spelling calls, each over the apostrophe that it is given.
-- Assumes nothing.
use Rattle.std.specs.Prelude.{ℕ, List, ℤ}
use Rattle.yokepear.specs.Calls.{SpellingCall, to_cardinal, to_ordinal, to_ordinal_num, to_year, to_currency}

-- each with its other numbers and its input
pub data OverApostrophe : (ℕ → SpellingCall) → Type 0 where
  cardinal : (gender number case style : ℕ) (text : List ℕ) → OverApostrophe (λ apostrophe. to_cardinal gender number case apostrophe style text)
  ordinal : (gender number case style : ℕ) (text : List ℕ) → OverApostrophe (λ apostrophe. to_ordinal gender number case apostrophe style text)
  ordinal_num : (gender number case style : ℕ) (text : List ℕ) → OverApostrophe (λ apostrophe. to_ordinal_num gender number case apostrophe style text)
  year : (gender number case style : ℕ) (y : ℤ) → OverApostrophe (λ apostrophe. to_year gender number case apostrophe style y)
  currency : (gender number case style : ℕ) (code text : List ℕ) → OverApostrophe (λ apostrophe. to_currency gender number case apostrophe style code text)
