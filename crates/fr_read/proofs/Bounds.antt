-- Whatever is guessed is 34 groups of three digits.
-- Assumes nothing.
use Prim.Native.Nat.{ℕ, zero, suc, ◌+◌, ◌-◌, ◌*◌, ◌%◌, ◌<◌}
use mathlib.Core.Path.{◌≡◌, refl}
use mathlib.Core.Bool.{Bool, true, false, cond, ◌&&◌}
use mathlib.Core.List.{List, [], ◌∷◌, ◌++◌}
use native.Mathlib.Omega.{arith}
use lib.Dec.{eqb, ltb}
use lib.ListN.{length, length-append}
use Rattle.figures.specs.Groups.{Groups}
use Rattle.fr_read.specs.Reading.{grow, times, at_least_one, Group, guess, seems, groups_read, guessed}

pub grow_small : (c m : ℕ) → grow c m < 100
grow_small c m = go (eqb c 4 && eqb m 20)
  where
    go : (t : Bool) → cond t 80 ((c + m) % 100) < 100
    go true = omega arith
    go false = omega arith

pub times_small : (c : ℕ) → times c < 10
times_small c = go (eqb c 0)
  where
    go : (t : Bool) → cond t 1 (c % 10) < 10
    go true = omega arith
    go false = omega arith

one_small : (v : ℕ) → v < 1000 → at_least_one v < 1000
one_small v h = go (eqb v 0)
  where
    go : (t : Bool) → cond t 1 v < 1000
    go true = omega arith
    go false = h

pub seems_below : (h c : ℕ) (ms : List ℕ) → h < 10 → c < 100 → (seems h c ms).value < 1000
unfolding seems
seems_below h c [] a b = omega arith
seems_below h c (m ∷ ms) a b =
    go (ltb 100 m) (eqb m 100) (seems_below (times c) 0 ms (times_small c) (omega arith)) (seems_below h (grow c m) ms a (grow_small c m))
  where
    go : (s t : Bool) → (seems (times c) 0 ms).value < 1000 → (seems h (grow c m) ms).value < 1000
        → (cond s (guess (at_least_one (100 * h + c)) (m - 1000) ms) (cond t (seems (times c) 0 ms) (seems h (grow c m) ms))).value < 1000
    go true t p q = one_small (100 * h + c) (omega arith)
    go false true p q = p
    go false false p q = q

snoc_groups : (gs : List ℕ) (x : ℕ) → Groups gs → x < 1000 → Groups (gs ++ (x ∷ []))
snoc_groups [] x a b = (b, tt)
snoc_groups (g ∷ gs) x a b = (a.0, snoc_groups gs x a.1 b)

pub reads_groups : (k : ℕ) (g : Group) → g.value < 1000 → Groups (groups_read k g)
unfolding groups_read
reads_groups zero g h = tt
reads_groups (suc k) g h = go (eqb g.order k) (reads_groups k (seems 0 0 g.rest) (seems_below 0 0 g.rest (omega arith) (omega arith))) (reads_groups k g h)
  where
    go : (t : Bool) → Groups (groups_read k (seems 0 0 g.rest)) → Groups (groups_read k g)
        → Groups (cond t (groups_read k (seems 0 0 g.rest) ++ (g.value ∷ [])) (groups_read k g ++ (0 ∷ [])))
    go true p q = snoc_groups (groups_read k (seems 0 0 g.rest)) g.value p h
    go false p q = snoc_groups (groups_read k g) 0 q (omega arith)

pub reads_length : (k : ℕ) (g : Group) → length (groups_read k g) ≡ k
unfolding groups_read
reads_length zero g = refl
reads_length (suc k) g = go (eqb g.order k) (reads_length k (seems 0 0 g.rest)) (reads_length k g)
  where
    go : (t : Bool) → length (groups_read k (seems 0 0 g.rest)) ≡ k → length (groups_read k g) ≡ k
        → length (cond t (groups_read k (seems 0 0 g.rest) ++ (g.value ∷ [])) (groups_read k g ++ (0 ∷ []))) ≡ suc k
    go true p q = rw (length-append (groups_read k (seems 0 0 g.rest)) (g.value ∷ [])) (omega (arith, p))
    go false p q = rw (length-append (groups_read k g) (0 ∷ [])) (omega (arith, q))

pub guessed_groups : (ms : List ℕ) → (length (guessed ms) ≡ 34) × Groups (guessed ms)
unfolding guessed
guessed_groups ms = (reads_length 34 (seems 0 0 ms), reads_groups 34 (seems 0 0 ms) (seems_below 0 0 ms (omega arith) (omega arith)))
