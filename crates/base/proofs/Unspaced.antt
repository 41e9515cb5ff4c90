-- Texts without a space, put together, joined by another byte, and in tables.
-- Assumes nothing.
use Prim.Native.Nat.{ℕ, zero, suc}
use Prim.Native.String.{String}
use mathlib.Core.Path.{◌≡◌, refl}
use mathlib.Core.Bool.{Bool, true, ◌&&◌}
use mathlib.Core.List.{List, [], ◌∷◌, ◌++◌}
use native.Mathlib.Omega.{arith}
use borrow.Author.Tests.{eqb-true, ne_eqb}
use lib.Dec.{eqb}
use Rattle.tables.proofs.Tests.{both_hold}
use Rattle.base.specs.Signs.{space}
use Rattle.base.specs.Utf8.{utf8, form1, form2}
use Rattle.base.specs.Join.{Word, spaced_by, joined_by}
use Rattle.base.specs.Measure.{spaces}
use Rattle.base.proofs.Measures.{spaces_append}

abbrev pub Unspaced : List ℕ → Type 0
Unspaced t = spaces t ≡ 0

abbrev pub AllUnspaced : List Word → Type 0
AllUnspaced [] = Unit
AllUnspaced (w ∷ ws) = Unspaced w × AllUnspaced ws

-- one after the other
pub unspaced_append : (a b : List ℕ) → Unspaced a → Unspaced b → Unspaced (a ++ b)
unspaced_append a b p q = omega (arith, spaces_append a b)

pub all_append : (us ws : List Word) → AllUnspaced us → AllUnspaced ws → AllUnspaced (us ++ ws)
all_append [] ws p q = q
all_append (u ∷ us) ws p q = (p.0, all_append us ws p.1 q)

-- words joined by a byte that is no space
module _ (j : ℕ) (other : j ≡ space → ⊥) where
  spaced_unspaced : (ws : List Word) → AllUnspaced ws → Unspaced (spaced_by j ws)
  unfolding spaces
  spaced_unspaced [] p = refl
  spaced_unspaced (w ∷ ws) p = rw (ne_eqb j space other) (unspaced_append w (spaced_by j ws) p.0 (spaced_unspaced ws p.1))

  pub joined_unspaced : (ws : List Word) → AllUnspaced ws → Unspaced (joined_by j ws)
  unfolding spaces
  joined_unspaced [] p = refl
  joined_unspaced (w ∷ ws) p = unspaced_append w (spaced_by j ws) p.0 (spaced_unspaced ws p.1)

-- no text of a list, and of a list of lists, has a space: a test, and what it gives
abbrev pub unspaced1 : List String → Bool
unspaced1 [] = true
unspaced1 (w ∷ ws) = eqb (spaces (utf8 w)) 0 && unspaced1 ws

abbrev pub unspaced2 : List (List String) → Bool
unspaced2 [] = true
unspaced2 (r ∷ rs) = unspaced1 r && unspaced2 rs

pub unspaced_at1 : (ws : List String) → unspaced1 ws ≡ true → (i : ℕ) → Unspaced (form1 ws i)
unfolding form1 spaces
unspaced_at1 [] t i = refl
unspaced_at1 (w ∷ ws) t zero = eqb-true _ _ (both_hold (eqb (spaces (utf8 w)) 0) (unspaced1 ws) t).0
unspaced_at1 (w ∷ ws) t (suc i) = unspaced_at1 ws (both_hold (eqb (spaces (utf8 w)) 0) (unspaced1 ws) t).1 i

pub unspaced_at2 : (rs : List (List String)) → unspaced2 rs ≡ true → (i j : ℕ) → Unspaced (form2 rs i j)
unfolding form2 form1 spaces
unspaced_at2 [] t i j = refl
unspaced_at2 (r ∷ rs) t zero j = unspaced_at1 r (both_hold (unspaced1 r) (unspaced2 rs) t).0 j
unspaced_at2 (r ∷ rs) t (suc i) j = unspaced_at2 rs (both_hold (unspaced1 r) (unspaced2 rs) t).1 i j
