-- A cardinal has words, and none of them is empty: in any language whose own words are so.
-- Assumes nothing.
use Prim.Native.Nat.{ℕ, zero, suc, ◌/◌, ◌^◌, ◌≤◌, ◌<◌}
use mathlib.Core.Bool.{Bool, true, false}
use mathlib.Core.List.{List}
use native.Mathlib.Nat.{mod-lt}
use native.Mathlib.Omega.{arith}
use lib.ListN.{length, length-append}
use Rattle.base.specs.Join.{Word}
use Rattle.base.proofs.Words.{Solid, Solids, solids_append, joined_solid}
use Rattle.cardinals.specs.Lexicon.{Lexicon}
use Rattle.cardinals.specs.Cardinal.{group_at, group_of, groups_below, sign_words, cardinal_words, cardinal_phrase}
use Rattle.cardinals.specs.Grammar.{Falling, end, skip, group}
use Rattle.cardinals.proofs.Numbers.{falls}

-- every group above 0 has words
abbrev pub GroupsSome : Lexicon → Type 0
GroupsSome L = (k g : ℕ) → 0 < g → g < 1000 → 0 < length (L.group_words k g)

module _ (L : Lexicon) (some : GroupsSome L) where
  falling_some : {k : ℕ} {ws : List Word} {n : ℕ} → Falling L k ws n → 0 < n → 0 < length ws
  falling_some end p = absurd (omega arith)
  falling_some (skip f) p = falling_some f p
  falling_some (group {k = k} {ws = ws} g a b f) p = rw (length-append (L.group_words k g) ws) (omega (arith, some k g a b))

  pub words_some : (minus : Bool) (n : ℕ) → n < 1000 ^ L.orders → 0 < length (cardinal_words L minus n)
  unfolding cardinal_words
  words_some minus zero h = omega arith
  words_some true (suc n) h = omega arith
  words_some false (suc n) h = falling_some (falls L L.orders (suc n) h) (omega arith)

-- what a language has is solid
pub record SolidWords (L : Lexicon) : Type 0 where
  pub zeroth : Solid L.zero_word
  pub minus : Solid L.minus_word
  pub some : GroupsSome L
  pub groups : (k g : ℕ) → k < L.orders → 0 < g → g < 1000 → Solids (L.group_words k g)

module _ {L : Lexicon} (W : SolidWords L) where
  group_solid : (k g : ℕ) → k < L.orders → g < 1000 → Solids (group_of L k g)
  group_solid k zero h l = tt
  group_solid k (suc g) h l = W.groups k (suc g) h (omega arith) l

  pub groups_solid : (k n : ℕ) → k ≤ L.orders → Solids (groups_below L k n)
  unfolding groups_below
  groups_solid zero n h = tt
  groups_solid (suc k) n h =
      solids_append (group_of L k (group_at k n)) (groups_below L k n) (group_solid k (group_at k n) h (mod-lt (n / 1000 ^ k) {m = 1000} (omega arith))) (groups_solid k n (omega arith))

  sign_solid : (minus : Bool) → Solids (sign_words L minus)
  sign_solid true = (W.minus, tt)
  sign_solid false = tt

  pub words_solid : (minus : Bool) (n : ℕ) → Solids (cardinal_words L minus n)
  unfolding cardinal_words
  words_solid minus zero = (W.zeroth, tt)
  words_solid minus (suc n) = solids_append (sign_words L minus) (groups_below L L.orders (suc n)) (sign_solid minus) (groups_solid L.orders (suc n) (omega arith))

  pub cardinal_solid : (minus : Bool) (n : ℕ) → n < 1000 ^ L.orders → Solid (cardinal_phrase L minus n)
  unfolding cardinal_phrase
  cardinal_solid minus n h = joined_solid L.joiner (cardinal_words L minus n) (words_some L W.some minus n h, words_solid minus n)
