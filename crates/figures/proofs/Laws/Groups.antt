-- Groups of three digits.
-- Assumes nothing.
use Rattle.std.proofs.Common.{◌≡◌, ℕ, zero, suc, ◌+◌, ◌*◌, ◌/◌, ◌%◌, ◌^◌, ◌<◌, ◌≤◌, true, List, [], ◌∷◌, length, get_or, sym, refl, ap, ◌∙◌, lt_of_lt_of_le, mod-lt, div-lt_iff_lt-mul, pow-suc, div-one, add-one, arith}
use native.Mathlib.Nat.{pow-succ', div-div-eq-div-mul, pow-le-pow_right}
use Rattle.figures.specs.Groups.{groups_of, total, Groups}
use Rattle.figures.specs.Text.{digits, value}
use Rattle.figures.specs.Written.{decimal}
use Rattle.figures.proofs.Laws.Digits.{value_lt, thousand}
use Rattle.figures.proofs.Laws.Text.{text_size_le}

-- the groups of n: how many, one of them, each below 1000
pub groups_length : (k n : ℕ) → length (groups_of k n) ≡ k
unfolding groups_of
groups_length zero n = refl
groups_length (suc k) n = ap suc (groups_length k (n / 1000))

pub groups_at : (k n o : ℕ) → o < k → get_or (groups_of k n) o 0 ≡ n / 1000 ^ o % 1000
unfolding groups_of
groups_at zero n o h = absurd (omega arith)
groups_at (suc k) n zero h = rw div-one
groups_at (suc k) n (suc o) h = groups_at k (n / 1000) o (omega arith) ∙ rw (pow-succ', div-div-eq-div-mul)

pub groups_below_lem : (k n : ℕ) → Groups (groups_of k n)
unfolding groups_of
groups_below_lem zero n = tt
groups_below_lem (suc k) n = (mod-lt n {m = 1000} (omega arith), groups_below_lem k (n / 1000))

-- the groups of n make up n, and groups are those of their number
pub total_groups : (k n : ℕ) → n < 1000 ^ k → total (groups_of k n) ≡ n
unfolding groups_of
total_groups zero n h = omega arith
total_groups (suc k) n h =
    let s : n / 1000 < 1000 ^ k = (div-lt_iff_lt-mul {k = 1000} (omega arith)).1 (rw pow-suc at h) in
    rw (total_groups k (n / 1000) s) (omega arith)

pub groups_total : (gs : List ℕ) → Groups gs → groups_of (length gs) (total gs) ≡ gs
unfolding groups_of
groups_total [] g = refl
groups_total (x ∷ gs) g =
    let s : x < 1000 = g.0 in
    let lo : (x + 1000 * total gs) % 1000 ≡ x = omega arith in
    let hi : (x + 1000 * total gs) / 1000 ≡ total gs = omega arith in
    rw (lo, hi, groups_total gs g.1)

pub group_of_lem : (gs : List ℕ) (o : ℕ) → Groups gs → o < length gs → get_or gs o 0 ≡ total gs / 1000 ^ o % 1000
group_of_lem gs o g h = ap (λ (l : List ℕ). get_or l o 0) (sym (groups_total gs g)) ∙ groups_at (length gs) (total gs) o h

pub group_lt : (gs : List ℕ) (o : ℕ) → Groups gs → o < length gs → get_or gs o 0 < 1000
group_lt gs o g h = rw (group_of_lem gs o g h) (mod-lt (total gs / 1000 ^ o) {m = 1000} (omega arith))

pub total_lt : (gs : List ℕ) → Groups gs → total gs < 1000 ^ length gs
total_lt [] g = omega arith
total_lt (x ∷ gs) g = let h : total gs < 1000 ^ length gs = total_lt gs g.1 in let s : x < 1000 = g.0 in rw pow-suc (omega arith)

pub total_size : (gs : List ℕ) → Groups gs → 0 < length gs → length (decimal (total gs)) ≤ length gs * 3
total_size gs g h = text_size_le (total gs) (length gs * 3) (omega arith) (rw thousand (total_lt gs g))

-- k groups hold the value of k * 3 digits
pub hold : (k : ℕ) (xs : List ℕ) → digits xs ≡ true → length xs ≤ k * 3 → value xs < 1000 ^ k
hold k xs d h = rw (← thousand k) (lt_of_lt_of_le (value_lt xs d) (pow-le-pow_right (omega arith) h))

-- what is left of n after a group more
pub rest_turn : (n r o : ℕ) → r ≡ n / 1000 ^ o → r / 1000 ≡ n / 1000 ^ (o + 1)
rest_turn n r o e = rw (e, div-div-eq-div-mul, add-one, pow-suc)
