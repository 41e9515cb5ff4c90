-- What a walker finds at a place of a phrase.
-- Assumes nothing.
use Rattle.std.specs.Prelude.{ℕ, ◌-◌, Bool, cond, Option, Some, None, List, ltb, length, drop}
use Rattle.tokens.specs.Tokens.{first_word, after_word, key}
use Rattle.tokens.specs.declared.Token.{Token}

-- whether a word stands at this place
abbrev pub follows : List ℕ → ℕ → Bool
follows s at = ltb at (length s)

-- how many bytes the first word of a text and the gap behind it have: all but those behind
abbrev pub span : List ℕ → ℕ
span s = length s - length (after_word s)

-- the word at this place: its key, and how far on the next one starts
abbrev pub word_at : List ℕ → ℕ → Token
word_at s at = record { key = key (first_word (drop at s)); next = span (drop at s) }

-- the same, where one stands there
abbrev pub found : List ℕ → ℕ → Option Token
found s at = cond (follows s at) (Some (word_at s at)) None
