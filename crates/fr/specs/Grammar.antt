-- The grammar of French ordinals, over words (01, "Phrase grammar and reader"); that of cardinals is `cardinals`'. It knows nothing of speller or
-- reader.
-- Assumes nothing.
use Rattle.std.specs.Prelude.{ℕ, ◌≡◌, Bool, false, List, [], ◌∷◌}
use Rattle.base.specs.Utf8.{utf8}
use Rattle.base.specs.Join.{Word, joined_by}
use Rattle.settings.specs.Settings.{Settings}
use Rattle.cardinals.specs.Grammar.{Sentence}
use Rattle.fr.specs.Rules.{french_joiner, nth_words, french}

-- an ordinal and its value: `premier`, or a sentence "without a minus" whose last word has the ordinal's ending, but not of 1 ("`unième` alone isn't a
-- sentence")
pub data NthSentence (S : Settings) : List Word → ℕ → Type 0 where
  first : NthSentence S (utf8 "premier" ∷ []) 1
  later : {ws : List Word} {n : ℕ} → Sentence (french S) ws false n → (n ≡ 1 → ⊥) → NthSentence S (nth_words ws) n

-- bytes that are an ordinal with this value; none is negative
pub record SaysNth (S : Settings) (s : List ℕ) (minus : Bool) (n : ℕ) : Type 0 where
  pub words : List Word
  pub derives : NthSentence S words n
  pub plus : minus ≡ false
  pub bytes : s ≡ joined_by (french_joiner S) words
