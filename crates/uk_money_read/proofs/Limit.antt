-- The number of 22 groups against the limit of money, as the code tells it: by the seven lowest groups.
-- Assumes nothing.
use Prim.Native.Nat.{ℕ, ◌+◌, ◌-◌, ◌*◌, ◌<◌, ◌≤◌}
use mathlib.Core.Path.{◌≡◌, refl, sym, ◌∙◌}
use mathlib.Core.Bool.{Bool, true, false}
use mathlib.Core.List.{List}
use native.Mathlib.Omega.{arith}
use borrow.Author.Tests.{le-leb, lt-leb, leb-true, leb-false, ltb-true, ltb-false}
use lib.Dec.{ltb, leb}
use lib.ListN.{get_or, drop}
use lib.Seq.{get_or-drop}
use Rattle.figures.specs.Groups.{total}
use Rattle.figures.specs.Money.{money_limit}
use Rattle.figures.proofs.Laws.Groups.{group_lt}
use Rattle.groups.specs.declared.number.Number.{Number}
use Rattle.groups.proofs.Highest.{total_seven, total_none, none_total}

-- a test that agrees with one of the limit
by_less : (a b n l : ℕ) → (a < b → n ≤ l) → (b ≤ a → l < n) → ltb a b ≡ leb n l
by_less a b n l f g = go (ltb a b) refl
  where
    go : (t : Bool) → ltb a b ≡ t → t ≡ leb n l
    go true e = sym (le-leb n l (f (ltb-true a b e)))
    go false e = sym (lt-leb n l (g (ltb-false a b e)))

by_most : (a b n l : ℕ) → (a ≤ b → n ≤ l) → (b < a → l < n) → leb a b ≡ leb n l
by_most a b n l f g = go (leb a b) refl
  where
    go : (t : Bool) → leb a b ≡ t → t ≡ leb n l
    go true e = sym (le-leb n l (f (leb-true a b e)))
    go false e = sym (lt-leb n l (g (leb-false a b e)))

-- by the seven lowest groups and what is above them
module _ (number : Number 22) where
  abbrev gs : List ℕ
  gs = number.groups

  -- three groups, the lowest of order i
  abbrev nine_at : ℕ → ℕ
  nine_at i = get_or gs (i + 2) 0 * 1000000 + get_or gs (i + 1) 0 * 1000 + get_or gs i 0

  nine_lt : (i : ℕ) → i < 20 → nine_at i < 1000000000
  nine_lt i h = omega (arith, group_lt gs i number.small (omega (arith, number.size)), group_lt gs (i + 1) number.small (omega (arith, number.size)), group_lt gs (i + 2) number.small (omega (arith, number.size)))

  parts : total gs ≡ nine_at 0 + 1000000000 * nine_at 3 + 1000000000000000000 * (get_or gs 6 0 + 1000 * total (drop 7 gs))
  parts = omega (arith, total_seven gs (omega (arith, number.size)))

  pub above : 7 < number.orders → false ≡ leb (total gs) money_limit
  above h =
      let some : (total (drop 7 gs) ≡ 0 → ⊥) = λ e. number.highest.some (omega arith) (last e) in
      sym (lt-leb (total gs) money_limit (omega (arith, parts, some)))
    where
      last : total (drop 7 gs) ≡ 0 → get_or gs (number.orders - 1) 0 ≡ 0
      last e =
          let i : 7 + (number.orders - 8) ≡ number.orders - 1 = omega arith in
          rw (← i, ← get_or-drop 7 gs (number.orders - 8) 0) (none_total (drop 7 gs) e (number.orders - 8) (omega arith))

  module _ (h : number.orders ≤ 7) where
    none : total (drop 7 gs) ≡ 0
    none = total_none (drop 7 gs) (λ i l. get_or-drop 7 gs i 0 ∙ number.highest.zeros (7 + i) (omega arith))

    pub by_high : (get_or gs 6 0 ≡ 18 → ⊥) → ltb (get_or gs 6 0) 18 ≡ leb (total gs) money_limit
    by_high d =
        by_less (get_or gs 6 0) 18 (total gs) money_limit (λ l. omega (arith, parts, none, nine_lt 0 (omega arith), nine_lt 3 (omega arith)))
        (λ l. omega (arith, parts, none))

    module _ (e : get_or gs 6 0 ≡ 18) where
      pub by_middle : (nine_at 3 ≡ 446744073 → ⊥) → ltb (nine_at 3) 446744073 ≡ leb (total gs) money_limit
      by_middle d = by_less (nine_at 3) 446744073 (total gs) money_limit (λ l. omega (arith, parts, none, nine_lt 0 (omega arith))) (λ l. omega (arith, parts, none))

      pub by_low : nine_at 3 ≡ 446744073 → leb (nine_at 0) 709551615 ≡ leb (total gs) money_limit
      by_low d = by_most (nine_at 0) 709551615 (total gs) money_limit (λ l. omega (arith, parts, none)) (λ l. omega (arith, parts, none))
