-- The words of a cardinal, and its phrase, in any language (01, "Ukrainian cardinals", "French"): what the speller says of a number.
-- Assumes nothing.
use Rattle.std.specs.Prelude.{ℕ, zero, suc, ◌/◌, ◌%◌, ◌^◌, Bool, true, false, List, [], ◌∷◌, ◌++◌}
use Rattle.base.specs.Join.{Word, joined_by}
use Rattle.cardinals.specs.Lexicon.{Lexicon}

-- the group of three digits of n at an order; "Order counts groups from 0"
abbrev pub group_at : ℕ → ℕ → ℕ
group_at k n = n / 1000 ^ k % 1000

-- a group's words; none for 0
abbrev pub group_of : Lexicon → ℕ → ℕ → List Word
group_of L k zero = []
group_of L k (suc g) = L.group_words k (suc g)

-- "nonzero groups from the highest order down": those of n below an order
unfoldable pub groups_below : Lexicon → ℕ → ℕ → List Word
groups_below L zero n = []
groups_below L (suc k) n = group_of L k (group_at k n) ++ groups_below L k n

-- the minus word "if negative"
abbrev pub sign_words : Lexicon → Bool → List Word
sign_words L true = L.minus_word ∷ []
sign_words L false = []

-- "Zero is the word of `ZERO`. Otherwise: `мінус` if negative, then nonzero groups": of n, or of -n if minus
unfoldable pub cardinal_words : Lexicon → Bool → ℕ → List Word
cardinal_words L minus zero = L.zero_word ∷ []
cardinal_words L minus (suc n) = sign_words L minus ++ groups_below L L.orders (suc n)

-- the phrase: the words joined
unfoldable pub cardinal_phrase : Lexicon → Bool → ℕ → List ℕ
cardinal_phrase L minus n = joined_by L.joiner (cardinal_words L minus n)
