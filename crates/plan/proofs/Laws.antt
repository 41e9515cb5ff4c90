-- Laws of plans and phrases: a plan's first number and the part after it; bytes written over bytes.
-- Assumes nothing.
use Prim.Native.Nat.{ℕ, zero, suc, ◌+◌, ◌-◌, ◌/◌, ◌%◌, ◌<◌, ◌≤◌}
use mathlib.Core.Path.{◌≡◌, refl, sym, ap, ◌∙◌}
use mathlib.Core.List.{List, [], ◌∷◌, ◌++◌, append-nil, append_assoc, map-append}
use native.Mathlib.Omega.{arith}
use native.Mathlib.Numerals.{add-one}
use lib.ListN.{length, get_or, take, drop, set, length-append, length-drop, drop_of_length-le}
use lib.Seq.{take_all, take-suc, split_at, take-append_seam, drop-append_seam, drop-drop}
use Rattle.std.proofs.lemmas.Grind.{common_steps}
use Rattle.base.specs.Buffer.{over}
use Rattle.words.specs.Part.{part}
use Rattle.plan.specs.Phrase.{Piece, gap, following, phrase_of}
use Rattle.plan.specs.Plan.{piece_of, pieces}

-- what the code lends as `&s[k..]`
abbrev pub from : ℕ → List ℕ → List ℕ
from k xs = take (length xs - k) (drop k xs)

pub from_is : (k : ℕ) (xs : List ℕ) → from k xs ≡ drop k xs
from_is k xs = take_all (length xs - k) (drop k xs) (rw length-drop (omega arith))

pub from_length : (k : ℕ) (xs : List ℕ) → length (from k xs) ≡ length xs - k
from_length k xs = rw from_is (length-drop k xs)

-- what the code has once `&mut s[k..]`, lent, has come back as zs
abbrev pub back : ℕ → List ℕ → List ℕ → List ℕ
back k ys zs = take k ys ++ (zs ++ drop (length ys - k) (drop k ys))

pub back_is : (k : ℕ) (ys zs : List ℕ) → back k ys zs ≡ take k ys ++ zs
back_is k ys zs = rw (drop_of_length-le (drop k ys) {i = length ys - k} (rw length-drop (omega arith)), append-nil) refl

-- a written first, and then b over the part after it
pub wrote : (k : ℕ) (xs a b ys zs : List ℕ) → k ≡ length a → ys ≡ over xs a → zs ≡ over (from k ys) b → back k ys zs ≡ over xs (a ++ b)
wrote k xs a b ys zs l e f =
    rw (back_is, f, l, e, from_is (length a) (over xs a), take-append_seam a, drop-append_seam a, drop-drop, length-append, append_assoc) refl

-- a byte stored first, and then b written over the part after it
pub stored : (s : ℕ) (xs b ys : List ℕ) → length (s ∷ b) ≤ length xs → ys ≡ over (from 1 (set xs 0 s)) b → back 1 (set xs 0 s) ys ≡ over xs (s ∷ b)
stored s [] b ys h e = absurd (omega arith)
stored s (x ∷ xs) b ys h e = wrote 1 (x ∷ xs) (s ∷ []) b (s ∷ xs) ys refl refl e

-- pieces behind pieces
pub following_append : (ps qs : List Piece) → following (ps ++ qs) ≡ following ps ++ following qs
unfolding following
following_append [] qs = refl
following_append (p ∷ ps) qs = rw (following_append ps qs) (sym (append_assoc (gap p.0 ++ p.1) (following ps) (following qs)))

-- of plans whose texts are parts of this pool
module _ (pool : List ℕ) where
  -- no piece says nothing
  pub none : (xs : List ℕ) → length xs < 1 → phrase_of (pieces pool xs) ≡ []
  unfolding phrase_of pieces
  none [] h = refl
  none (x ∷ xs) h = absurd (omega arith)

  -- the first piece, and the part after it
  pub first_phrase : (xs : List ℕ) → 1 ≤ length xs
      → phrase_of (pieces pool xs) ≡ part pool (get_or xs 0 0 / 256) ++ following (pieces pool (from 1 xs))
  unfolding phrase_of pieces piece_of
  first_phrase [] h = absurd (omega arith)
  first_phrase (x ∷ xs) h = rw (from_is 1 (x ∷ xs)) refl

  -- a piece with its separator
  pub bare : (c : ℕ) → c % 256 ≡ 0 → following (piece_of pool c ∷ []) ≡ part pool (c / 256)
  unfolding following piece_of
  bare c h = rw (h, append-nil) refl

  pub spaced : (c : ℕ) → (c % 256 ≡ 0 → ⊥) → following (piece_of pool c ∷ []) ≡ (c % 256) ∷ part pool (c / 256)
  unfolding following piece_of
  spaced c h = go (c % 256) h
    where
      go : (n : ℕ) → (n ≡ 0 → ⊥) → (gap n ++ part pool (c / 256)) ++ [] ≡ n ∷ part pool (c / 256)
      go zero h = absurd (h refl)
      go (suc n) h = append-nil _

  -- the pieces up to a place, one more, and all
  abbrev pub upto : ℕ → List ℕ → List ℕ
  upto i xs = following (pieces pool (take i xs))

  pub next : (xs : List ℕ) (i : ℕ) → i < length xs → upto (i + 1) xs ≡ upto i xs ++ following (piece_of pool (get_or xs i 0) ∷ [])
  unfolding pieces
  next xs i h = rw (add-one i, take-suc xs i 0 h, map-append) (following_append (pieces pool (take i xs)) (piece_of pool (get_or xs i 0) ∷ []))

  pub upto_all : (xs : List ℕ) (i : ℕ) → length xs ≤ i → upto i xs ≡ following (pieces pool xs)
  upto_all xs i h = rw (take_all i xs h) refl

  pub upto_none : (xs : List ℕ) → upto 0 xs ≡ []
  unfolding following pieces
  upto_none xs = refl

  pub next_room : (xs : List ℕ) (i : ℕ) → i < length xs → length (upto i xs) + length (following (piece_of pool (get_or xs i 0) ∷ [])) ≤ length (following (pieces pool xs))
  unfolding pieces
  next_room xs i h =
      let p = piece_of pool (get_or xs i 0) in
      let e : following (pieces pool xs) ≡ upto i xs ++ (following (p ∷ []) ++ following (pieces pool (drop (suc i) xs))) =
      ap (λ l. following (pieces pool l)) (split_at xs i 0 h) ∙ rw map-append (following_append (pieces pool (take i xs)) (p ∷ pieces pool (drop (suc i) xs)))
      ∙ ap (λ l. upto i xs ++ l) (following_append (p ∷ []) (pieces pool (drop (suc i) xs))) in
      rw (e, length-append, length-append) (omega arith)

-- what the tactics know of one piece, of the pieces up to a place, and of a phrase's first piece
pub ruleset piece_laws = (common_steps, bare, spaced, stored)

pub ruleset turn_laws = (common_steps, next, next_room, upto_all, upto_none)

pub ruleset first_laws = (common_steps, none, first_phrase)
