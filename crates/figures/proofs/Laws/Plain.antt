-- Plain texts, by their first byte.
-- Assumes nothing.
use Rattle.std.proofs.Common.{◌≡◌, ℕ, suc, ◌-◌, ◌^◌, ◌<◌, ◌≤◌, Bool, true, false, cond, eqb, List, [], ◌∷◌, length, get_or, sym, refl, ◌∙◌, mul-le-mul, arith, eq-eqb, ne_eqb, eqb-true}
use borrow.Author.Tests.{eqb-false}
use Rattle.figures.specs.Text.{digits, plain, value}
use Rattle.figures.proofs.Laws.Digits.{and_both, ten_pos, digit_low, digit_is, digits_head}

-- a plain text by its first byte
pub plain_other : (s : List ℕ) → (length s ≡ 0 → ⊥) → (get_or s 0 0 ≡ 48 → ⊥) → plain s ≡ digits s
plain_other [] n e = absurd (n refl)
plain_other (b ∷ bs) n e = rw (ne_eqb b 48 e)

-- the digits of '0' alone
lone_zero : (b : ℕ) (bs : List ℕ) → eqb b 48 ≡ true → eqb (length bs) 0 ≡ true → digits (b ∷ bs) ≡ true
lone_zero b [] e l = let z = eqb-true b 48 e in and_both (digit_is b (omega arith) (omega arith)) refl
lone_zero b (c ∷ r) e l = let z = eqb-true (suc (length r)) 0 l in absurd (omega arith)

pub plain_digits : (xs : List ℕ) → plain xs ≡ true → digits xs ≡ true
plain_digits [] p = refl
plain_digits (b ∷ bs) p = go (eqb b 48) refl p
  where
    go : (t : Bool) → eqb b 48 ≡ t → cond t (eqb (length bs) 0) (digits (b ∷ bs)) ≡ true → digits (b ∷ bs) ≡ true
    go true e q = lone_zero b bs e q
    go false e q = q

pub plain_some : (xs : List ℕ) → plain xs ≡ true → 0 < length xs
plain_some [] p = let z : ◌≡◌ {A = ℕ} 0 1 = cc in absurd (omega arith)
plain_some (b ∷ bs) p = omega arith

-- a first digit above 0 makes the value as large as its place
some_value : (b : ℕ) (bs : List ℕ) → digits (b ∷ bs) ≡ true → (b ≡ 48 → ⊥) → 10 ^ length bs ≤ value (b ∷ bs)
some_value b bs d n =
    let l : 48 ≤ b = digit_low b (digits_head b bs d) in
    let z : 1 ≤ b - 48 = omega arith in
    omega (arith, mul-le-mul {n₁ = 1} {m₁ = 10 ^ length bs} {m₂ = 10 ^ length bs} z (omega arith))

pub plain_least : (b : ℕ) (bs : List ℕ) → plain (b ∷ bs) ≡ true → 1 < suc (length bs) → 10 ^ length bs ≤ value (b ∷ bs)
plain_least b bs p h = go (eqb b 48) refl p
  where
    go : (t : Bool) → eqb b 48 ≡ t → cond t (eqb (length bs) 0) (digits (b ∷ bs)) ≡ true → 10 ^ length bs ≤ value (b ∷ bs)
    go true e q = let z : length bs ≡ 0 = eqb-true (length bs) 0 q in absurd (omega arith)
    go false e q = some_value b bs q (eqb-false b 48 e)

-- a plain text means 0 where it begins with '0'
pub plain_first : (xs : List ℕ) → plain xs ≡ true → eqb (get_or xs 0 0) 48 ≡ eqb (value xs) 0
plain_first [] p = cc
plain_first (b ∷ bs) p = go bs (eqb b 48) refl p
  where
    go : (r : List ℕ) (t : Bool) → eqb b 48 ≡ t → cond t (eqb (length r) 0) (digits (b ∷ r)) ≡ true → eqb b 48 ≡ eqb (value (b ∷ r)) 0
    go [] true e q = let z = eqb-true b 48 e in e ∙ sym (eq-eqb (value (b ∷ [])) 0 (omega arith))
    go (c ∷ r) true e q = let z = eqb-true (suc (length r)) 0 q in absurd (omega arith)
    go r false e q = e ∙ sym (ne_eqb (value (b ∷ r)) 0 (λ z. omega (arith, some_value b r q (eqb-false b 48 e), ten_pos (length r))))
