-- What the reader makes of the last word of an ordinal, leniently: an order, and a number there. It is compared with the ordinal's own words afterwards,
-- so nothing here has to be believed.
-- Assumes nothing.
use Rattle.std.specs.Prelude.{ℕ, zero, suc, ◌+◌, ◌-◌, ◌*◌, ◌/◌, ◌%◌, Bool, false, cond, ◌||◌, List, [], ◌∷◌, eqb, length, take, drop, get_or}
use Rattle.base.specs.Join.{Word}
use Rattle.base.specs.Signs.{space}
use Rattle.tokens.specs.Tokens.{first_word, key}
use Rattle.uk_ordinal_meanings.specs.Meanings.{meaning_of}
use Rattle.uk_counts.specs.Counts.{count_of}

-- a space stands among the bytes
abbrev pub spaced : List ℕ → Bool
spaced [] = false
spaced (b ∷ s) = eqb b space || spaced s

-- what stands behind the last space; all, where there is none
unfoldable pub last_word : List ℕ → Word
last_word [] = []
last_word (b ∷ s) = cond (spaced s) (last_word s) (cond (eqb b space) s (b ∷ s))

-- what stands before it; nothing, where there is none
unfoldable pub before_last : List ℕ → List ℕ
before_last [] = []
before_last (b ∷ s) = cond (spaced s) (b ∷ before_last s) []

-- a word without its last k bytes
abbrev pub without : ℕ → Word → Word
without k w = take (length w - k) w

-- a count of which a word more is taken: сот, which counts 1000, makes hundreds of a unit
abbrev pub grown : ℕ → ℕ → ℕ
grown value more = cond (eqb more 1000) (value % 10 * 100) ((value + more) % 1000)

-- what at most k count words at the front of a stem count, after others that count so many
unfoldable pub counted : ℕ → ℕ → List ℕ → ℕ
counted zero value s = value
counted (suc k) value s = cond (eqb (count_of s) 0) value (counted k (grown value (count_of s / 64)) (drop (count_of s % 64) s))

-- what stands behind them
unfoldable pub uncounted : ℕ → List ℕ → List ℕ
uncounted zero s = s
uncounted (suc k) s = cond (eqb (count_of s) 0) s (uncounted k (drop (count_of s % 64) s))

-- the most words of a count: a unit, сот, tens and a unit
abbrev pub count_words : ℕ
count_words = 4

-- what a stem means that has no count
abbrev pub stem_means : List ℕ → ℕ
stem_means s = meaning_of (key (first_word s))

-- a stem is a compound's: it ends in н, whose last byte no stem of order 0 has at its end
abbrev pub compound : List ℕ → Bool
compound s = eqb (get_or s (length s - 1) 0) 189

-- the order of a stem, and its number there: a scale without a count is one
unfoldable pub stem_order : List ℕ → ℕ
stem_order s = cond (compound s) (stem_means (uncounted count_words s) % 1000 % 22) 0

unfoldable pub stem_value : List ℕ → ℕ
stem_value s = cond (compound s) (cond (eqb (counted count_words 0 s) 0) 1 (counted count_words 0 s)) (stem_means s % 1000)
