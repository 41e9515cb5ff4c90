-- Which numbers are years, as the code tells it: by the seven lowest groups.
-- Assumes nothing.
use Prim.Native.Nat.{ℕ, ◌+◌, ◌-◌, ◌*◌, ◌^◌, ◌<◌}
use mathlib.Core.Path.{◌≡◌, refl, sym}
use mathlib.Core.Bool.{Bool, true, false, ◌&&◌}
use mathlib.Core.List.{List}
use native.Mathlib.Omega.{arith}
use borrow.Author.Tests.{lt-leb}
use lib.Dec.{eqb, leb}
use lib.ListN.{get_or, drop}
use lib.Seq.{get_or-drop}
use Rattle.tables.proofs.Tests.{clash_of}
use Rattle.figures.specs.Groups.{total}
use Rattle.groups.specs.declared.number.Number.{Number}
use Rattle.groups.proofs.Highest.{total_seven, none_total}
use Rattle.uk_ordinal_read.specs.Promise.{is_year}

and_true : (b : Bool) → b ≡ (b && true)
and_true true = refl
and_true false = refl

-- a number by its seven lowest groups
module _ (number : Number 22) where
  abbrev gs : List ℕ
  gs = number.groups

  parts : total gs
      ≡ get_or gs 0 0 + 1000 * get_or gs 1 0 + 1000000 * get_or gs 2 0 + 1000000000 * get_or gs 3 0 + 1000000000000 * get_or gs 4 0 + 1000000000000000 * get_or gs 5 0
      + 1000000000000000000 * (get_or gs 6 0 + 1000 * total (drop 7 gs))
  parts = total_seven gs (omega (arith, number.size))

  -- one that is too large for any year
  too_large_lem : (early : Bool) → 2 ^ 63 < total gs → false ≡ is_year early (total gs)
  unfolding is_year
  too_large_lem true h = sym (rw (lt-leb (total gs) (2 ^ 63) h) refl)
  too_large_lem false h = sym (rw (lt-leb (total gs) (2 ^ 63 - 1) (omega arith)) refl)

  pub high : (early : Bool) → 9 < get_or gs 6 0 → false ≡ is_year early (total gs)
  high early h = too_large_lem early (omega (arith, parts))

  pub above : (early : Bool) → 7 < number.orders → false ≡ is_year early (total gs)
  above early h =
      let some : (total (drop 7 gs) ≡ 0 → ⊥) = λ e. number.highest.some (omega arith) (last e) in
      too_large_lem early (omega (arith, parts, some))
    where
      last : total (drop 7 gs) ≡ 0 → get_or gs (number.orders - 1) 0 ≡ 0
      last e =
          let i : 7 + (number.orders - 8) ≡ number.orders - 1 = omega arith in
          rw (← i, ← get_or-drop 7 gs (number.orders - 8) 0) (none_total (drop 7 gs) e (number.orders - 8) (omega arith))

  -- its magnitude m, told by the limit of its years
  pub early_year : (m : ℕ) (early : Bool) → m ≡ total gs → early ≡ true → leb m (2 ^ 63) ≡ is_year early (total gs)
  unfolding is_year
  early_year m true e f = rw e (and_true (leb (total gs) (2 ^ 63)))
  early_year m false e f = clash_of f

  module _ (zero early : Bool) (t : zero ≡ eqb (total gs) 0) (f : early ≡ false) where
    pub no_year : zero ≡ true → false ≡ is_year early (total gs)
    unfolding is_year
    no_year h = sym (rw (f, ← t, h) (and_false (leb (total gs) (2 ^ 63 - 1))))
      where
        and_false : (b : Bool) → (b && false) ≡ false
        and_false true = refl
        and_false false = refl

    pub late_year : (m : ℕ) → m ≡ total gs → zero ≡ false → leb m (2 ^ 63 - 1) ≡ is_year early (total gs)
    unfolding is_year
    late_year m e h = rw (e, f, ← t, h) (and_true (leb (total gs) (2 ^ 63 - 1)))
