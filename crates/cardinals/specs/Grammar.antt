-- The grammar of cardinals, over words, in any language (01, "Phrase grammar and reader"). It knows nothing of speller or reader.
-- Assumes nothing.
use Rattle.std.specs.Prelude.{ℕ, suc, ◌+◌, ◌*◌, ◌^◌, ◌<◌, ◌≡◌, Bool, true, false, List, [], ◌∷◌, ◌++◌}
use Rattle.base.specs.Join.{Word, joined_by}
use Rattle.cardinals.specs.Lexicon.{Lexicon}

-- "groups of strictly falling order" below k, each "for one of 1 to 999", and "the sum of its groups, each times 1000 to the power of its order"
pub data Falling (L : Lexicon) : ℕ → List Word → ℕ → Type 0 where
  end : Falling L 0 [] 0
  skip : {k : ℕ} {ws : List Word} {n : ℕ} → Falling L k ws n → Falling L (suc k) ws n
  group : {k : ℕ} {ws : List Word} {n : ℕ} (g : ℕ) → 0 < g → g < 1000 → Falling L k ws n
      → Falling L (suc k) (L.group_words k g ++ ws) (g * 1000 ^ k + n)

-- a sentence, whether it is negative, and its magnitude: "zero's word, or an optional minus word and one or more groups"
pub data Sentence (L : Lexicon) : List Word → Bool → ℕ → Type 0 where
  nought : Sentence L (L.zero_word ∷ []) false 0
  unmarked : {ws : List Word} {n : ℕ} → Falling L L.orders ws n → 0 < n → Sentence L ws false n
  marked : {ws : List Word} {n : ℕ} → Falling L L.orders ws n → 0 < n → Sentence L (L.minus_word ∷ ws) true n

-- bytes that are a sentence with this sign and magnitude
pub record Says (L : Lexicon) (s : List ℕ) (minus : Bool) (n : ℕ) : Type 0 where
  pub words : List Word
  pub derives : Sentence L words minus n
  pub bytes : s ≡ joined_by L.joiner words
