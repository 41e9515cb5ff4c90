-- How many orders hold a number's groups, and what the groups from an order on tell of the number.
-- Assumes nothing.
use Prim.Native.Nat.{ℕ, zero, suc, ◌+◌, ◌-◌, ◌*◌, ◌/◌, ◌%◌, ◌^◌, ◌≤◌, ◌<◌}
use native.Mathlib.Decide.{dec_lt}
use native.Mathlib.Nat.{div-eq_of_lt, div-lt_iff_lt-mul, one-le-pow, zero-mod, lt_of_lt_of_le, le_trans, pow-le-pow_right}
use native.Mathlib.Numerals.{add-one}
use native.Mathlib.Omega.{arith}
use mathlib.Core.Bool.{true, false}
use mathlib.Core.List.{List, [], ◌∷◌, ◌++◌}
use mathlib.Core.Path.{◌≡◌, refl, sym, ◌∙◌}
use borrow.Author.Tests.{eq-eqb, ne_eqb}
use lib.Dec.{eqb}
use lib.ListN.{length, get_or, set, take, drop, replicate, length-append, get_or-eq_default}
use lib.Seq.{drop-cons}
use Rattle.figures.specs.Groups.{groups_of, total, Groups}
use Rattle.figures.specs.Text.{plain, value}
use Rattle.figures.proofs.Laws.Digits.{thousand}
use Rattle.figures.proofs.Laws.Plain.{plain_digits, plain_least}
use Rattle.figures.proofs.Laws.Text.{lead_zero}
use Rattle.figures.proofs.Laws.Groups.{groups_length, groups_at, groups_total, group_of_lem, total_lt, hold, rest_turn}
use Rattle.groups.specs.Highest.{ZeroFrom, Highest}
use Rattle.groups.specs.declared.number.Number.{Number}

-- a number below 1000 to the m has m orders
pub small_zeros : (n m k : ℕ) → n < 1000 ^ m → ZeroFrom (groups_of k n) m
small_zeros n m k h i l = go (dec_lt i k)
  where
    go : Dec (i < k) → get_or (groups_of k n) i 0 ≡ 0
    go (yes q) =
        let s : n < 1000 ^ i = lt_of_lt_of_le h (pow-le-pow_right {n = 1000} (omega arith) l) in
        rw (groups_at k n i q, div-eq_of_lt s) (zero-mod 1000)
    go (no q) = get_or-eq_default (groups_of k n) 0 (rw groups_length (omega arith))

-- a number divided by 1000 as often as it is not 0: these are its orders, and no more than it has room in
module _ (n o : ℕ) (s : (i : ℕ) → i < o → n / 1000 ^ i ≡ 0 → ⊥) where
  pub few_orders : (k : ℕ) → n < 1000 ^ k → o ≤ k
  few_orders k h = go (dec_lt k o)
    where
      go : Dec (k < o) → o ≤ k
      go (yes q) = absurd (s k q (div-eq_of_lt h))
      go (no q) = omega arith

  pub all_orders : (k : ℕ) → o ≤ k → n / 1000 ^ o ≡ 0 → Highest (groups_of k n) o
  all_orders k h z = record {
    fits = rw groups_length h;
    zeros = small_zeros n o k (omega (arith, (div-lt_iff_lt-mul {k = 1000 ^ o} {x = n} {y = 1} (one-le-pow o 1000 (omega arith))).0 (omega arith)));
    some = λ l e.
        let q : o - 1 + 1 ≡ o = omega arith in
        let r = rw q at (rest_turn n (n / 1000 ^ (o - 1)) (o - 1) refl) in
        s (o - 1) (omega arith) (omega (arith, r, sym (groups_at k n (o - 1) (omega arith)) ∙ e));
  }

-- the text's digits tell its orders
pub counted : (s : List ℕ) → plain s ≡ true → (k : ℕ) → (length s + 2) / 3 ≤ k → Highest (groups_of k (value s)) ((length s + 2) / 3)
counted s p k h = record {
  fits = rw groups_length h;
  zeros = small_zeros (value s) ((length s + 2) / 3) k (hold ((length s + 2) / 3) s (plain_digits s p) (omega arith));
  some = λ l e. most s p ((length s + 2) / 3 - 1) (omega arith) (omega arith) (omega arith) (sym (groups_at k (value s) ((length s + 2) / 3 - 1) (omega arith)) ∙ e);
}
  where
    most : (s : List ℕ) → plain s ≡ true → (o : ℕ) → 0 < o → o * 3 < length s → length s ≤ suc o * 3 → value s / 1000 ^ o % 1000 ≡ 0 → ⊥
    most [] p o l a b e = omega arith
    most (d ∷ ds) p o l a b e =
        let w : 1000 ^ o ≤ value (d ∷ ds) =
        le_trans (rw (← thousand o) (pow-le-pow_right {n = 10} (omega arith) {i = o * 3} {j = length ds} (omega arith))) (plain_least d ds p (omega arith)) in
        omega (arith, lead_zero 1000 o (value (d ∷ ds)) (omega arith) (hold (suc o) (d ∷ ds) (plain_digits (d ∷ ds) p) b) e)

-- groups that are all 0; one more at the end, which is 0 or below where the zeros begin
pub zeros_all : (k : ℕ) → ZeroFrom (replicate k 0) 0
zeros_all zero i h = refl
zeros_all (suc k) zero h = refl
zeros_all (suc k) (suc i) h = zeros_all k i (omega arith)

pub zeros_then : (gs : List ℕ) (n : ℕ) → ZeroFrom gs n → ZeroFrom (gs ++ (0 ∷ [])) n
zeros_then gs n z i h = last gs i ∙ z i h
  where
    last : (gs : List ℕ) (i : ℕ) → get_or (gs ++ (0 ∷ [])) i 0 ≡ get_or gs i 0
    last [] zero = refl
    last [] (suc i) = refl
    last (g ∷ gs) zero = refl
    last (g ∷ gs) (suc i) = last gs i

pub zeros_past : (gs : List ℕ) (v n : ℕ) → length gs < n → ZeroFrom (gs ++ (v ∷ [])) n
zeros_past gs v n l i h = get_or-eq_default (gs ++ (v ∷ [])) 0 (rw (length-append gs (v ∷ [])) (omega arith))

-- groups that are 0 from the first on make up 0, and 0 has no others
pub total_none : (gs : List ℕ) → ZeroFrom gs 0 → total gs ≡ 0
total_none [] z = refl
total_none (g ∷ gs) z = omega (arith, z 0 (omega arith), total_none gs (λ i h. z (suc i) (omega arith)))

pub none_total : (gs : List ℕ) → total gs ≡ 0 → ZeroFrom gs 0
none_total [] e i h = refl
none_total (g ∷ gs) e zero h = omega arith
none_total (g ∷ gs) e (suc i) h = none_total gs (omega arith) i (omega arith)

-- the lowest groups make up the number where the others are 0
pub total_take : (gs : List ℕ) (n : ℕ) → ZeroFrom gs n → total (take n gs) ≡ total gs
total_take gs zero z = sym (total_none gs z)
total_take [] (suc n) z = refl
total_take (g ∷ gs) (suc n) z = rw (total_take gs n (λ i h. z (suc i) (omega arith)))

-- of a top as `top` gives it: it is 0 just where the number is
pub top_zero : (gs : List ℕ) (r : ℕ) → Highest gs r → (0 < r → get_or gs (r - 1) 0 ≡ 0 → ⊥) → eqb r 0 ≡ eqb (total gs) 0
top_zero gs zero t s = sym (eq-eqb (total gs) 0 (total_none gs t.zeros))
top_zero gs (suc r) t s =
    ne_eqb (suc r) 0 (λ e. omega arith) ∙
    sym (ne_eqb (total gs) 0 (λ e. s (omega arith) (none_total gs e (suc r - 1) (omega arith))))

-- a number below 1000 is told by its lowest group
module _ (gs : List ℕ) (n k : ℕ) (t : Highest gs n) where
  pub total_high : Groups gs → k < 1000 → 1 < n → false ≡ eqb (total gs) k
  total_high g h l =
      sym (ne_eqb (total gs) k (λ e. t.some l (rw (groups_total gs g) at (small_zeros (total gs) 1 (length gs) (omega arith) (n - 1) (omega arith)))))

  pub total_low : n ≤ 1 → total gs ≡ get_or gs 0 0
  total_low l = sym (total_take gs 1 (λ i h. t.zeros i (omega arith))) ∙ first gs
    where
      first : (gs : List ℕ) → total (take 1 gs) ≡ get_or gs 0 0
      first [] = refl
      first (g ∷ gs) = omega arith

-- the groups from an order on: one of them, and the others
pub total_from : (gs : List ℕ) (i : ℕ) → i < length gs → total (drop i gs) ≡ get_or gs i 0 + 1000 * total (drop (i + 1) gs)
total_from gs i h = rw (drop-cons gs i 0 h, add-one i) refl

-- a number by its seven lowest groups and those above them
pub total_seven : (gs : List ℕ) → 7 ≤ length gs
    → total gs ≡ get_or gs 0 0 + 1000 * get_or gs 1 0 + 1000000 * get_or gs 2 0 + 1000000000 * get_or gs 3 0 + 1000000000000 * get_or gs 4 0 + 1000000000000000 * get_or gs 5 0
    + 1000000000000000000 * (get_or gs 6 0 + 1000 * total (drop 7 gs))
total_seven gs z =
    let a = total_from gs 0 (omega arith) in
    let b = total_from gs 1 (omega arith) in
    let c = total_from gs 2 (omega arith) in
    let d = total_from gs 3 (omega arith) in
    let e = total_from gs 4 (omega arith) in
    let f = total_from gs 5 (omega arith) in
    let h = total_from gs 6 (omega arith) in
    omega arith

-- a number below a thousand is its lowest group
pub lone : (k g : ℕ) → g < 1000 → 0 < k → Groups (set (replicate k 0) 0 g) × Highest (set (replicate k 0) 0 g) 1 × (total (set (replicate k 0) 0 g) ≡ g)
lone zero g l h = absurd (omega arith)
lone (suc k) g l h = (
  (l, none_below k),
  record { fits = omega arith; zeros = above; some = λ h. absurd (omega arith) },
  omega (arith, total_none (replicate k 0) (zeros_all k)),
)
  where
    none_below : (k : ℕ) → Groups (replicate k 0)
    none_below zero = tt
    none_below (suc k) = (omega arith, none_below k)

    above : ZeroFrom (set (replicate (suc k) 0) 0 g) 1
    above zero a = absurd (omega arith)
    above (suc i) a = zeros_all k i (omega arith)

-- a number of N groups is below 1000 to the N
pub number_below : {N : ℕ} (x : Number N) → total x.groups < 1000 ^ N
number_below x = rw (← x.size) (total_lt x.groups x.small)

-- a number below a power of a thousand has no more orders than that
pub orders_few : (gs : List ℕ) (n k : ℕ) → Groups gs → Highest gs n → 0 < k → total gs < 1000 ^ k → n ≤ k
orders_few gs n k small top some h = go (dec_lt k n)
  where
    go : Dec (k < n) → n ≤ k
    go (no q) = omega arith
    go (yes q) =
        let low : total gs < 1000 ^ (n - 1) = lt_of_lt_of_le h (pow-le-pow_right {n = 1000} (omega arith) {i = k} {j = n - 1} (omega arith)) in
        let none : get_or gs (n - 1) 0 ≡ 0 = group_of_lem gs (n - 1) small (omega (arith, top.fits)) ∙ rw (div-eq_of_lt low) refl in
        absurd (top.some (omega arith) none)
