-- What a language has for its cardinals (01, "Ukrainian cardinals", "French"). Speller and grammar are each defined over it.
-- Assumes nothing.
use Rattle.std.specs.Prelude.{ℕ, List}
use Rattle.base.specs.Join.{Word}

-- how many orders its numbers have, the byte between words, zero's word, the minus word, and the words of a group of 1 to 999 at an order
pub record Lexicon : Type 0 where
  pub orders : ℕ
  pub joiner : ℕ
  pub zero_word : Word
  pub minus_word : Word
  pub group_words : ℕ → ℕ → List Word
