-- A text taken word by word. What a reader makes of a text from these is held against the grammar's own words afterwards, so nothing here has to
-- be believed.
-- Assumes nothing.
use Rattle.std.specs.Prelude.{ℕ, ◌+◌, ◌*◌, ◌/◌, ◌%◌, ◌<◌, ◌≤◌, ◌≡◌, Bool, cond, ◌&&◌, List, [], ◌∷◌, eqb, ltb, length, drop}
use Rattle.base.specs.Divide.{to_first}
use Rattle.base.specs.Join.{Word}

-- words end at a space or a hyphen, or at any other byte below 64 that has no 2 in it: no letter has one, and the ASCII apostrophe is none
abbrev pub is_gap : ℕ → Bool
is_gap b = ltb b 64 && eqb (b / 2 % 2) 0

-- the first word of a text
unfoldable pub first_word : List ℕ → Word
first_word [] = []
first_word (b ∷ s) = cond (is_gap b) [] (b ∷ first_word s)

-- what stands behind it and the gap that ends it
unfoldable pub after_word : List ℕ → List ℕ
after_word [] = []
after_word (b ∷ s) = cond (is_gap b) s (after_word s)

-- the words of a text
unfoldable pub split : List ℕ → List Word
split [] = []
split (b ∷ s) = cond (is_gap b) ([] ∷ split s) (to_first b (split s))

-- a word's bytes as one number, the first the lowest, with 62 above the last
unfoldable pub full_key : Word → ℕ
full_key [] = 62
full_key (b ∷ w) = b + 256 * full_key w

-- the number by which a reader knows a word: no two number words of a language have one unless they mean the same
unfoldable pub key : Word → ℕ
key w = full_key w % 823685

-- no gap stands before i in the first word of s, and k is what its bytes there add to the key
abbrev pub Begun : List ℕ → ℕ → ℕ → Type 0
Begun s i k = (key (first_word s) ≡ (k + full_key (first_word (drop i s))) % 823685) × (after_word s ≡ after_word (drop i s))

-- k is the key of the first word of s, and the next word starts at n
abbrev pub Took : List ℕ → ℕ → ℕ → Type 0
Took s k n = (k ≡ key (first_word s)) × (drop n s ≡ after_word s) × (n ≤ length s) × (0 < length s → 0 < n)
