-- The digits of groups, put one after the other.
-- Assumes nothing.
use Prim.Native.Nat.{ℕ, zero, suc, ◌+◌, ◌*◌, ◌/◌, ◌%◌, ◌^◌, ◌≤◌}
use native.Mathlib.Omega.{arith}
use mathlib.Core.List.{◌++◌}
use mathlib.Core.Path.{◌≡◌, refl}
use Rattle.figures.specs.Written.{fixed}
use Rattle.figures.proofs.Laws.Digits.{thousand}
use Rattle.figures.proofs.Laws.Groups.{rest_turn}
use Rattle.figures.proofs.Laws.Text.{fixed_split}

-- the digits of a group are those of the number at its place
fixed_group : (k y : ℕ) → k ≤ 3 → fixed k (y % 1000) ≡ fixed k y
fixed_group zero y h = refl
fixed_group (suc zero) y h =
    let c : y % 1000 / 1 % 10 ≡ y / 1 % 10 = omega arith in
    rw c
fixed_group (suc (suc zero)) y h =
    let b : y % 1000 / 10 % 10 ≡ y / 10 % 10 = omega arith in
    let c : y % 1000 / 1 % 10 ≡ y / 1 % 10 = omega arith in
    rw (b, c)
fixed_group (suc (suc (suc zero))) y h =
    let a : y % 1000 / 100 % 10 ≡ y / 100 % 10 = omega arith in
    let b : y % 1000 / 10 % 10 ≡ y / 10 % 10 = omega arith in
    let c : y % 1000 / 1 % 10 ≡ y / 1 % 10 = omega arith in
    rw (a, b, c)
fixed_group (suc (suc (suc (suc k)))) y h = absurd (omega arith)

-- the text of a group in front of those of the groups below it
pub fixed_high : (k o n : ℕ) → k ≤ 3 → fixed k (n / 1000 ^ o % 1000) ++ fixed (o * 3) n ≡ fixed (k + o * 3) n
fixed_high k o n h = rw (fixed_group k (n / 1000 ^ o) h, fixed_split k (o * 3) n, thousand o)

-- and after those of the groups above it
pub fixed_low : (i n o : ℕ) → fixed i (n / 1000 ^ (o + 1)) ++ fixed 3 (n / 1000 ^ o % 1000) ≡ fixed (i + 3) (n / 1000 ^ o)
fixed_low i n o = rw (fixed_group 3 (n / 1000 ^ o) (omega arith), fixed_split i 3 (n / 1000 ^ o), ← rest_turn n (n / 1000 ^ o) o refl)
