-- Laws of the test whether two texts are the same.
-- Assumes nothing.
use Prim.Native.Nat.{ℕ}
use mathlib.Core.Path.{◌≡◌, refl, sym, ap, ◌∙◌}
use mathlib.Core.Bool.{true, false}
use mathlib.Core.List.{List, [], ◌∷◌}
use native.Mathlib.Omega.{arith}
use borrow.Author.Tests.{eq-eqb, eqb-true}
use lib.Dec.{eqb}
use lib.ListN.{length}
use Rattle.tables.proofs.Tests.{clash, both_hold}
use Rattle.base.specs.Same.{same_text}
use Rattle.base.proofs.Fronts.{and_false}

-- where it holds they are equal
pub same_is : (w s : List ℕ) → same_text w s ≡ true → w ≡ s
same_is [] [] e = refl
same_is [] (b ∷ s) e = clash (sym e)
same_is (a ∷ w) [] e = clash (sym e)
same_is (a ∷ w) (b ∷ s) e =
    let t = both_hold (eqb a b) (same_text w s) e in
    rw (eqb-true a b t.0, same_is w s t.1) refl

-- and where it does not hold they are not
same_self : (s : List ℕ) → same_text s s ≡ true
same_self [] = refl
same_self (b ∷ s) = rw (eq-eqb b b refl) (same_self s)

pub same_not : (w s : List ℕ) → same_text w s ≡ false → w ≡ s → ⊥
same_not w s e p = clash (sym (same_self w) ∙ ap (same_text w) p ∙ e)

-- so with other lengths
pub other_length : (w s : List ℕ) → (length s ≡ length w → ⊥) → same_text w s ≡ false
other_length [] [] n = absurd (n refl)
other_length [] (b ∷ s) n = refl
other_length (a ∷ w) [] n = refl
other_length (a ∷ w) (b ∷ s) n = rw (other_length w s (λ (h : length s ≡ length w). n (omega arith))) (and_false (eqb a b))
