-- The highest group that is not 0 tells the length of a number's text.
-- Assumes nothing.
use Prim.Native.Nat.{ℕ, zero, suc, ◌+◌, ◌-◌, ◌*◌, ◌/◌, ◌%◌, ◌^◌, ◌<◌, ◌≤◌}
use mathlib.Core.Path.{◌≡◌, ◌∙◌}
use mathlib.Core.List.{List, [], ◌∷◌}
use native.Mathlib.Nat.{mod-eq_of_lt, div-lt_iff_lt-mul, one-le-pow, pow-succ'}
use native.Mathlib.Omega.{arith}
use lib.ListN.{length, get_or, take}
use lib.Seq.{length-take-le}
use Rattle.figures.specs.Groups.{total, Groups}
use Rattle.figures.specs.Written.{decimal}
use Rattle.figures.proofs.Laws.Groups.{group_of_lem, total_lt}
use Rattle.figures.proofs.Laws.Text.{lead_some, text_above}
use Rattle.groups.specs.Highest.{Highest}
use Rattle.groups.proofs.Highest.{total_take, total_none}

groups_take : (gs : List ℕ) (n : ℕ) → Groups gs → Groups (take n gs)
groups_take gs zero g = tt
groups_take [] (suc n) g = tt
groups_take (x ∷ gs) (suc n) g = (g.0, groups_take gs n g.1)

module _ (gs : List ℕ) (g : Groups gs) (n : ℕ) (t : Highest gs n) where
  pub size_none : n ≡ 0 → 1 ≡ length (decimal (total gs))
  unfolding decimal
  size_none e = rw (total_none gs (rw e at t.zeros))

  below_top : total gs < 1000 ^ n
  below_top = rw (total_take gs n t.zeros, length-take-le n gs t.fits) at (total_lt (take n gs) (groups_take gs n g))

  pub size_some : length gs ≤ 34 → (n ≡ 0 → ⊥) → (n - 1) * 3 + length (decimal (get_or gs (n - 1) 0)) ≡ length (decimal (total gs))
  size_some m z =
      let o : ℕ = n - 1 in
      let w : n ≤ length gs = t.fits in
      let e : suc o ≡ n = omega arith in
      let l : total gs / 1000 ^ o < 1000 = (div-lt_iff_lt-mul (one-le-pow o 1000 (omega arith))).1 (rw (← pow-succ' 1000 o, e) below_top) in
      let x : get_or gs o 0 ≡ total gs / 1000 ^ o % 1000 = group_of_lem gs o g (omega arith) in
      rw (x ∙ mod-eq_of_lt l) (text_above (total gs) o (omega arith) l (λ q. lead_some 1000 o (total gs) (λ y. t.some (omega arith) (x ∙ y))))
