-- Measures: that of a phrase, that of a refusal, and the spaces of bytes put together.
-- Assumes nothing.
use Prim.Native.Nat.{ℕ, zero, suc, ◌+◌, ◌<◌}
use mathlib.Core.Path.{◌≡◌, refl, ap}
use mathlib.Core.Bool.{Bool, true, false, cond}
use mathlib.Core.List.{List, [], ◌∷◌, ◌++◌}
use native.Mathlib.Numerals.{add-one}
use native.Mathlib.Omega.{arith}
use lib.Dec.{eqb}
use lib.ListN.{length}
use Rattle.base.specs.Answer.{Spelling}
use Rattle.base.specs.Signs.{space}
use Rattle.base.specs.Measure.{spaces, measure_of, measured}
use Rattle.base.specs.declared.Measure.{Measure}

-- the measure of a phrase of so many spaces and this length
pub of_phrase : (s l : ℕ) (phrase : List ℕ) → s ≡ spaces phrase → l ≡ length phrase → ◌≡◌ {A = Measure} (record { refusal = 0; words = s + 1; length = l }) (measure_of phrase)
of_phrase s l phrase e f = rw (e, f, add-one (spaces phrase)) refl

-- that of a call that is refused; of one that is not
pub of_refused : (n : ℕ) (call : Spelling) → 0 < n → call.refusal ≡ n → ◌≡◌ {A = Measure} (record { refusal = n; words = 0; length = 0 }) (measured call)
of_refused zero call h e = absurd (omega arith)
of_refused (suc n) call h e = rw e refl

pub of_spelled : (call : Spelling) → call.refusal ≡ 0 → measure_of call.phrase ≡ measured call
of_spelled call e = rw e refl

-- spaces add up
pub spaces_append : (a b : List ℕ) → spaces (a ++ b) ≡ spaces a + spaces b
unfolding spaces
spaces_append [] b = omega arith
spaces_append (c ∷ a) b = go (eqb c space) (spaces_append a b)
  where
    go : (t : Bool) → spaces (a ++ b) ≡ spaces a + spaces b → cond t (suc (spaces (a ++ b))) (spaces (a ++ b)) ≡ cond t (suc (spaces a)) (spaces a) + spaces b
    go true e = rw e (omega arith)
    go false e = e
