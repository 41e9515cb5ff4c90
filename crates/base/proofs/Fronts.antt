-- Laws of a word at the front of a text, place by place and as a whole.
-- Assumes nothing.
use Prim.Native.Nat.{ℕ, ◌<◌}
use mathlib.Core.Path.{◌≡◌, refl}
use mathlib.Core.Bool.{Bool, true, false, ◌&&◌}
use mathlib.Core.List.{List, [], ◌∷◌, ◌++◌}
use native.Mathlib.Omega.{arith}
use borrow.Author.Tests.{eq-eqb, eqb-true}
use lib.Dec.{eqb}
use lib.ListN.{length, drop}
use Rattle.std.specs.Prelude.{Some, None}
use Rattle.tables.proofs.Tests.{clash_of, both_hold}
use Rattle.base.specs.Front.{begins, passed}

pub and_false : (b : Bool) → (b && false) ≡ false
and_false true = refl
and_false false = refl

pub too_short : (w s : List ℕ) → length s < length w → begins w s ≡ false
too_short [] s h = absurd (omega arith)
too_short (b ∷ w) [] h = refl
too_short (b ∷ w) (c ∷ s) h = rw (too_short w s (omega arith)) (and_false (eqb b c))

-- what begins with w is w and a rest
pub begins_is : (w s : List ℕ) → begins w s ≡ true → w ++ drop (length w) s ≡ s
begins_is [] s e = refl
begins_is (b ∷ w) [] e = clash_of e
begins_is (b ∷ w) (c ∷ s) e =
    let t = both_hold (eqb b c) (begins w s) e in
    rw (eqb-true b c t.0, begins_is w s t.1) refl

pub begins_own : (w t : List ℕ) → begins w (w ++ t) ≡ true
begins_own [] t = refl
begins_own (b ∷ w) t = rw (eq-eqb b b refl) (begins_own w t)

pub passed_true : (w s : List ℕ) → begins w s ≡ true → passed w s ≡ Some (length w)
unfolding passed
passed_true w s e = rw e refl

pub passed_false : (w s : List ℕ) → begins w s ≡ false → passed w s ≡ None
unfolding passed
passed_false w s e = rw e refl
