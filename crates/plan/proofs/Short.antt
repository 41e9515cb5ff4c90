-- A phrase is short: no piece has more than 40 bytes with its separator.
-- Assumes nothing.
use Prim.Native.Nat.{ℕ, zero, suc, ◌*◌, ◌/◌, ◌%◌, ◌≤◌}
use mathlib.Core.List.{List, [], ◌∷◌}
use native.Mathlib.Omega.{arith}
use lib.ListN.{length, length-append}
use Rattle.base.specs.Room.{longest_piece}
use Rattle.words.proofs.Parts.{part_short}
use Rattle.plan.specs.Phrase.{gap, following, phrase_of}
use Rattle.plan.specs.Plan.{piece_of, pieces}

gap_short : (s : ℕ) → length (gap s) ≤ 1
gap_short zero = omega arith
gap_short (suc s) = omega arith

following_short : (pool xs : List ℕ) → length (following (pieces pool xs)) ≤ longest_piece * length xs
unfolding following pieces piece_of
following_short pool [] = omega arith
following_short pool (x ∷ xs) =
    rw (length-append, length-append) (omega (arith, gap_short (x % 256), part_short pool (x / 256), following_short pool xs))

pub pieces_short : (pool xs : List ℕ) → length (phrase_of (pieces pool xs)) ≤ longest_piece * length xs
unfolding phrase_of pieces piece_of
pieces_short pool [] = omega arith
pieces_short pool (x ∷ xs) = rw length-append (omega (arith, part_short pool (x / 256), following_short pool xs))
