-- How far pieces extend with their separators.
-- Assumes nothing.
use Prim.Native.Nat.{ℕ, zero, suc, ◌+◌, ◌/◌, ◌%◌, ◌<◌, ◌≤◌}
use mathlib.Core.Path.{◌≡◌, refl}
use mathlib.Core.Bool.{Bool, true, false, not, cond}
use mathlib.Core.List.{List, [], ◌∷◌, append-nil}
use native.Mathlib.Omega.{arith}
use mir.Val.{bool_byte}
use borrow.Author.Tests.{ne_eqb}
use lib.Dec.{eqb}
use lib.ListN.{length, get_or}
use Rattle.base.specs.Signs.{space}
use Rattle.base.specs.Measure.{spaces}
use Rattle.words.specs.Part.{part}
use Rattle.words.specs.Extents.{Extends}
use Rattle.words.specs.declared.extents.Extent.{Extent}
use Rattle.words.proofs.Counts.{extends_append}
use Rattle.plan.specs.Phrase.{gap, following, phrase_of}
use Rattle.plan.specs.Plan.{piece_of, pieces}
use Rattle.plan.proofs.Laws.{from, none, first_phrase, upto, upto_none}

-- a separator is a byte, where there is one, and a space if it is one
gap_extends : (s : ℕ) → Extends (gap s) (record { spaces = bool_byte (eqb s space); length = bool_byte (not (eqb s 0)) })
unfolding spaces
gap_extends zero = record { spaced = refl; sized = refl }
gap_extends (suc s) = record { spaced = one (eqb (suc s) space); sized = rw (ne_eqb (suc s) 0 (λ e. omega arith)) refl }
  where
    one : (b : Bool) → bool_byte b ≡ cond b 1 0
    one true = refl
    one false = refl

-- a text with its separator
pub piece_extends : (pool : List ℕ) (c : ℕ) {x : Extent} (y : Extent) → Extends (part pool (c / 256)) x
    → y.spaces ≡ x.spaces + bool_byte (eqb (c % 256) space) → y.length ≡ x.length + bool_byte (not (eqb (c % 256) 0)) → Extends (following (piece_of pool c ∷ [])) y
unfolding following piece_of
piece_extends pool c y e s l = rw append-nil (extends_append y (gap_extends (c % 256)) e (omega arith) (omega arith))

-- before the first piece there is nothing
pub none_extends : (pool xs : List ℕ) → Extends (upto pool 0 xs) (record { spaces = 0; length = 0 })
unfolding spaces
none_extends pool xs = rw (upto_none pool xs) (record { spaced = refl; sized = refl })

-- no piece
pub no_phrase : (pool xs : List ℕ) → length xs < 1 → Extends (phrase_of (pieces pool xs)) (record { spaces = 0; length = 0 })
unfolding spaces
no_phrase pool xs h = rw (none pool xs h) (record { spaced = refl; sized = refl })

-- the first one's text, and the others
pub phrase_extends : (pool xs : List ℕ) {x y : Extent} → 1 ≤ length xs → Extends (part pool (get_or xs 0 0 / 256)) x → Extends (following (pieces pool (from 1 xs))) y
    → Extends (phrase_of (pieces pool xs)) (record { spaces = x.spaces + y.spaces; length = x.length + y.length })
phrase_extends pool xs h e f = rw (first_phrase pool xs h) (extends_append _ e f refl refl)
