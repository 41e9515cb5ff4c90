-- A key's place: what stands there is its meaning, where the place belongs to it.
-- Assumes nothing.
use Prim.Native.Nat.{ℕ, ◌/◌, ◌%◌}
use mathlib.Core.Path.{◌≡◌, refl}
use borrow.Author.Tests.{eq-eqb, ne_eqb}
use Rattle.meanings.specs.Lookup.{meaning_at}

module _ {key e t : ℕ} (a : e ≡ t) where
  pub here : e % 1048576 ≡ key → e / 1048576 ≡ meaning_at key t
  here h = rw (← a, eq-eqb (e % 1048576) key h) refl

  pub elsewhere : (e % 1048576 ≡ key → ⊥) → 0 ≡ meaning_at key t
  elsewhere h = rw (← a, ne_eqb (e % 1048576) key h) refl
