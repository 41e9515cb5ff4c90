-- The last two digits of a number, by which its ending is soft or not.
-- Assumes nothing.
use Prim.Native.Nat.{ℕ, suc, ◌+◌, ◌-◌, ◌*◌, ◌/◌, ◌%◌, ◌^◌, ◌<◌, ◌≤◌}
use mathlib.Core.Path.{◌≡◌, refl, ap, ◌∙◌}
use mathlib.Core.Bool.{Bool, true, false, not}
use mathlib.Core.List.{List, ◌∷◌}
use native.Mathlib.Omega.{arith}
use native.Mathlib.Nat.{pow-succ', add-mul, mul_assoc, add_assoc, div-eq_of_lt, lt_of_lt_of_le, pow-le-pow_right}
use borrow.Author.Tests.{eq-eqb, ne_eqb, eqb-true, eqb-false}
use lib.Arith.{digits_div, digits_mod}
use lib.Dec.{eqb}
use lib.ListN.{length, get_or, take, drop, length-drop}
use lib.Seq.{split_at}
use Rattle.figures.specs.Text.{digits, value}
use Rattle.figures.proofs.Laws.Digits.{digits_at, digit_low, digit_high, digits_drop, value_lt, value_append}
use Rattle.uk_ordinal.specs.Ordinal.{soft}

-- the digit with p digits after it is the value's digit at 10 ^ p
digit_at : (xs : List ℕ) (p : ℕ) → digits xs ≡ true → p < length xs → value xs / 10 ^ p % 10 ≡ get_or xs (length xs - 1 - p) 0 - 48
digit_at xs p e h =
    let i : ℕ = length xs - 1 - p in
    let li : i < length xs = omega arith in
    let hb : get_or xs i 0 ≤ 57 = digit_high (get_or xs i 0) (digits_at xs i e li) in
    let q : get_or xs i 0 - 48 < 10 = omega arith in
    let lr : length (drop (suc i) xs) ≡ p = simp length-drop (omega arith) in
    let hr : value (drop (suc i) xs) < 10 ^ p = rw lr at (value_lt (drop (suc i) xs) (digits_drop (suc i) xs e)) in
    let whole : value xs ≡ (value (take i xs) * 10 + (get_or xs i 0 - 48)) * 10 ^ p + value (drop (suc i) xs) =
    ap value (split_at xs i 0 li) ∙ value_append (take i xs) (get_or xs i 0 ∷ drop (suc i) xs) ∙ rw lr (simp (pow-succ', add-mul, mul_assoc, add_assoc)) in
    rw (whole, digits_div (value (take i xs) * 10 + (get_or xs i 0 - 48)) hr, digits_mod (value (take i xs)) q)

digit_past : (xs : List ℕ) (p : ℕ) → digits xs ≡ true → length xs ≤ p → value xs / 10 ^ p % 10 ≡ 0
digit_past xs p e h = rw (div-eq_of_lt (lt_of_lt_of_le (value_lt xs e) (pow-le-pow_right (omega arith) h)))

-- a number is soft by its last two digits
last_two : (n : ℕ) → n % 100 ≡ 10 * (n / 10 % 10) + n % 10
last_two n = omega arith

soft_tens : (n : ℕ) → n % 10 ≡ 3 → soft n ≡ not (eqb (n / 10 % 10) 1)
soft_tens n e = rw (eq-eqb (n % 10) 3 e) (ap not (go (eqb (n / 10 % 10) 1) refl))
  where
    go : (b : Bool) → eqb (n / 10 % 10) 1 ≡ b → eqb (n % 100) 13 ≡ b
    go true q = let z = eqb-true (n / 10 % 10) 1 q in eq-eqb (n % 100) 13 (omega (arith, last_two n))
    go false q = let z = eqb-false (n / 10 % 10) 1 q in ne_eqb (n % 100) 13 (λ s. z (omega (arith, last_two n)))

hard : (n : ℕ) → (n % 10 ≡ 3 → ⊥) → soft n ≡ false
hard n e = rw (ne_eqb (n % 10) 3 e) refl

same_test : (b : ℕ) → 48 ≤ b → eqb (b - 48) 1 ≡ eqb b 49
same_test b l = go (eqb b 49) refl
  where
    go : (t : Bool) → eqb b 49 ≡ t → eqb (b - 48) 1 ≡ t
    go true q = let z = eqb-true b 49 q in eq-eqb (b - 48) 1 (omega arith)
    go false q = let z = eqb-false b 49 q in ne_eqb (b - 48) 1 (λ s. omega arith)

module _ (xs : List ℕ) (d : digits xs ≡ true) (h : 0 < length xs) where
  last : value xs % 10 ≡ get_or xs (length xs - 1) 0 - 48
  last =
      let e : length xs - 1 - 0 ≡ length xs - 1 = omega arith in
      let f : value xs / 1 % 10 ≡ get_or xs (length xs - 1) 0 - 48 = rw e at (digit_at xs 0 d h) in
      omega arith

  pub soft_other : (get_or xs (length xs - 1) 0 ≡ 51 → ⊥) → soft (value xs) ≡ false
  soft_other n =
      let l : 48 ≤ get_or xs (length xs - 1) 0 = digit_low (get_or xs (length xs - 1) 0) (digits_at xs (length xs - 1) d (omega arith)) in
      hard (value xs) (λ e. omega (arith, last))

  module _ (e : get_or xs (length xs - 1) 0 ≡ 51) where
    three : value xs % 10 ≡ 3
    three = omega (arith, last)

    pub soft_alone : length xs ≡ 1 → soft (value xs) ≡ true
    soft_alone o = soft_tens (value xs) three ∙ rw (digit_past xs 1 d (omega arith)) refl

    pub soft_after : 2 ≤ length xs → soft (value xs) ≡ not (eqb (get_or xs (length xs - 2) 0) 49)
    soft_after o =
        let i : length xs - 1 - 1 ≡ length xs - 2 = omega arith in
        let f : value xs / 10 % 10 ≡ get_or xs (length xs - 2) 0 - 48 = rw i at (digit_at xs 1 d (omega arith)) in
        let l : 48 ≤ get_or xs (length xs - 2) 0 = digit_low (get_or xs (length xs - 2) 0) (digits_at xs (length xs - 2) d (omega arith)) in
        soft_tens (value xs) three ∙ rw (f, same_test (get_or xs (length xs - 2) 0) l) refl
