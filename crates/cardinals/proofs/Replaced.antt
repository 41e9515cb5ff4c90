-- A cardinal's words with a sign in place of each U+02BC: those of another language, where its own words are so.
-- Assumes nothing.
use Prim.Native.Nat.{ℕ, zero, suc}
use mathlib.Core.Path.{◌≡◌}
use mathlib.Core.Bool.{Bool, true, false}
use mathlib.Core.List.{List}
use Rattle.base.proofs.Replaced.{Turns, WordsTurn, none, one, words_append}
use Rattle.cardinals.specs.Lexicon.{Lexicon}
use Rattle.cardinals.specs.Cardinal.{group_at, group_of, groups_below, sign_words, cardinal_words}

-- what one language has turns into what the other has
pub record LexiconTurns (sign : List ℕ) (L L' : Lexicon) : Type 0 where
  pub orders : L'.orders ≡ L.orders
  pub zeroth : Turns sign L.zero_word L'.zero_word
  pub minus : Turns sign L.minus_word L'.minus_word
  pub groups : (k g : ℕ) → WordsTurn sign (L.group_words k g) (L'.group_words k g)

module _ {sign : List ℕ} {L L' : Lexicon} (W : LexiconTurns sign L L') where
  group_turns : (k g : ℕ) → WordsTurn sign (group_of L k g) (group_of L' k g)
  group_turns k zero = none
  group_turns k (suc g) = W.groups k (suc g)

  pub groups_turn : (k n : ℕ) → WordsTurn sign (groups_below L k n) (groups_below L' k n)
  unfolding groups_below
  groups_turn zero n = none
  groups_turn (suc k) n = words_append (group_turns k (group_at k n)) (groups_turn k n)

  sign_turns : (minus : Bool) → WordsTurn sign (sign_words L minus) (sign_words L' minus)
  sign_turns true = one W.minus
  sign_turns false = none

  pub words_turn : (minus : Bool) (n : ℕ) → WordsTurn sign (cardinal_words L minus n) (cardinal_words L' minus n)
  unfolding cardinal_words
  words_turn minus zero = one W.zeroth
  words_turn minus (suc n) = words_append (sign_turns minus) (go L'.orders W.orders)
    where
      go : (k : ℕ) → k ≡ L.orders → WordsTurn sign (groups_below L L.orders (suc n)) (groups_below L' k (suc n))
      go k e = rw e (groups_turn L.orders (suc n))
