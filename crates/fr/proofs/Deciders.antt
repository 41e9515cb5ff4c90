-- An order other than that of `mille`.
-- Assumes nothing.
use Prim.Native.Nat.{ℕ, zero, suc}
use mathlib.Core.Path.{◌≡◌, refl}
use mathlib.Core.Bool.{false}
use Rattle.fr.specs.Rules.{is_mille}

pub mille_not : (k : ℕ) → (k ≡ 1 → ⊥) → is_mille k ≡ false
mille_not zero n = refl
mille_not (suc zero) n = absurd (n refl)
mille_not (suc (suc k)) n = refl
