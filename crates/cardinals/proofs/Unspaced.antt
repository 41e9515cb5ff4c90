-- A cardinal without a space: in any language whose words have none and are joined by another byte.
-- Assumes nothing.
use Prim.Native.Nat.{ℕ, zero, suc}
use mathlib.Core.Path.{◌≡◌}
use mathlib.Core.Bool.{Bool, true, false}
use Rattle.base.specs.Signs.{space}
use Rattle.base.proofs.Unspaced.{Unspaced, AllUnspaced, all_append, joined_unspaced}
use Rattle.cardinals.specs.Lexicon.{Lexicon}
use Rattle.cardinals.specs.Cardinal.{group_at, group_of, groups_below, sign_words, cardinal_words, cardinal_phrase}

-- what a language has is without a space
pub record UnspacedWords (L : Lexicon) : Type 0 where
  pub joiner : L.joiner ≡ space → ⊥
  pub zeroth : Unspaced L.zero_word
  pub minus : Unspaced L.minus_word
  pub groups : (k g : ℕ) → AllUnspaced (L.group_words k g)

module _ {L : Lexicon} (W : UnspacedWords L) where
  group_unspaced : (k g : ℕ) → AllUnspaced (group_of L k g)
  group_unspaced k zero = tt
  group_unspaced k (suc g) = W.groups k (suc g)

  groups_unspaced : (k n : ℕ) → AllUnspaced (groups_below L k n)
  unfolding groups_below
  groups_unspaced zero n = tt
  groups_unspaced (suc k) n = all_append (group_of L k (group_at k n)) (groups_below L k n) (group_unspaced k (group_at k n)) (groups_unspaced k n)

  sign_unspaced : (minus : Bool) → AllUnspaced (sign_words L minus)
  sign_unspaced true = (W.minus, tt)
  sign_unspaced false = tt

  words_unspaced : (minus : Bool) (n : ℕ) → AllUnspaced (cardinal_words L minus n)
  unfolding cardinal_words
  words_unspaced minus zero = (W.zeroth, tt)
  words_unspaced minus (suc n) = all_append (sign_words L minus) (groups_below L L.orders (suc n)) (sign_unspaced minus) (groups_unspaced L.orders (suc n))

  pub cardinal_unspaced : (minus : Bool) (n : ℕ) → Unspaced (cardinal_phrase L minus n)
  unfolding cardinal_phrase
  cardinal_unspaced minus n = joined_unspaced L.joiner W.joiner (cardinal_words L minus n) (words_unspaced minus n)
