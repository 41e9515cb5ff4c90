-- The number text of a number: its length, and that it is the one plain text with that value.
-- Assumes nothing.
use Rattle.std.proofs.Common.{◌≡◌, ℕ, zero, suc, ◌+◌, ◌-◌, ◌*◌, ◌/◌, ◌%◌, ◌^◌, ◌<◌, ◌≤◌, Bool, true, false, cond, eqb, ltb, leb, List, [], ◌∷◌, ◌++◌, length, sym, refl, ap, ◌∙◌, lt_of_lt_of_le, mod-lt, mod-eq_of_lt, mul_comm, div-lt_iff_lt-mul, add_comm, suc-add, one-mul, le-div_iff_mul-le, zero-add, sub-one, arith, pow-add, ltb-false, ltb-true, leb-false, leb-true}
use native.Mathlib.Nat.{one-le-pow, pow-succ', div-eq_of_lt, mod-one, zero-mod, div-div-eq-div-mul, pow-le-pow_right}
use lib.Arith.{mod-mul}
use Rattle.figures.specs.Text.{digits, plain, value}
use Rattle.figures.specs.Written.{fixed, width, decimal}
use Rattle.figures.proofs.Laws.Digits.{thousand, and_both, ten_pos, digit_is, value_lt, value_inj}
use Rattle.figures.proofs.Laws.Plain.{plain_digits, plain_least, plain_other}

-- the last k digits of n
pub fixed_length : (k n : ℕ) → length (fixed k n) ≡ k
fixed_length zero n = refl
fixed_length (suc k) n = ap suc (fixed_length k n)

pub fixed_digits : (k n : ℕ) → digits (fixed k n) ≡ true
fixed_digits zero n = refl
fixed_digits (suc k) n =
    and_both (digit_is (48 + n / 10 ^ k % 10) (omega arith) (omega (arith, mod-lt (n / 10 ^ k) {m = 10} (omega arith)))) (fixed_digits k n)

-- the digits above the last m, and those
pub fixed_split : (k m n : ℕ) → fixed (k + m) n ≡ fixed k (n / 10 ^ m) ++ fixed m n
fixed_split zero m n = rw zero-add
fixed_split (suc k) m n =
    let d : n / 10 ^ (k + m) ≡ n / 10 ^ m / 10 ^ k = ap (λ (q : ℕ). n / q) (pow-add 10 k m ∙ mul_comm (10 ^ k) (10 ^ m)) ∙ sym (div-div-eq-div-mul n (10 ^ m) (10 ^ k)) in
    rw (suc-add, d, fixed_split k m n)

pub value_fixed : (k n : ℕ) → value (fixed k n) ≡ n % 10 ^ k
value_fixed zero n = sym (mod-one n)
value_fixed (suc k) n = rw (fixed_length k n, value_fixed k n, pow-succ', mod-mul n {m = 10} {c = 10 ^ k} (omega arith) (ten_pos k))
    (ap (λ (d : ℕ). d * 10 ^ k + n % 10 ^ k) (omega arith))

pub fixed_value : (xs : List ℕ) → digits xs ≡ true → fixed (length xs) (value xs) ≡ xs
fixed_value xs e =
    value_inj (fixed (length xs) (value xs)) xs (fixed_digits (length xs) (value xs)) e (fixed_length (length xs) (value xs))
    (value_fixed (length xs) (value xs) ∙ mod-eq_of_lt (value_lt xs e))

-- a first digit of 0 can be left out, and one above 0 cannot: of a number written to the base b
pub lead_zero : (b k n : ℕ) → 0 < b → n < b ^ suc k → n / b ^ k % b ≡ 0 → n < b ^ k
lead_zero b k n p h z =
    let c : 0 < b ^ k = one-le-pow k b p in
    let q : n / b ^ k < b = (div-lt_iff_lt-mul c).1 (rw pow-succ' at h) in
    let r : n / b ^ k < 1 = omega (arith, mod-eq_of_lt q) in
    omega (arith, (div-lt_iff_lt-mul c).0 r)

pub lead_some : (b k n : ℕ) → (n / b ^ k % b ≡ 0 → ⊥) → b ^ k ≤ n
lead_some b k n e = go (leb (b ^ k) n) refl
  where
    go : (t : Bool) → leb (b ^ k) n ≡ t → b ^ k ≤ n
    go true p = leb-true (b ^ k) n p
    go false p = absurd (e (rw (div-eq_of_lt (leb-false (b ^ k) n p)) (zero-mod b)))

-- the width of n: at least one digit and at most the most; it holds n, and no fewer do
pub width_least : (k n : ℕ) → 1 ≤ width k n
width_least zero n = omega arith
width_least (suc k) n = go (width_least k n) (ltb n (10 ^ suc k))
  where
    go : 1 ≤ width k n → (t : Bool) → 1 ≤ cond t (width k n) (suc (suc k))
    go ih true = ih
    go ih false = omega arith

width_most : (k n : ℕ) → width k n ≤ suc k
width_most zero n = omega arith
width_most (suc k) n = go (width_most k n) (ltb n (10 ^ suc k))
  where
    go : width k n ≤ suc k → (t : Bool) → cond t (width k n) (suc (suc k)) ≤ suc (suc k)
    go ih true = omega arith
    go ih false = omega arith

width_holds : (k n : ℕ) → n < 10 ^ suc k → n < 10 ^ width k n
width_holds zero n h = h
width_holds (suc k) n h = go (width_holds k n) (ltb n (10 ^ suc k)) refl
  where
    go : (n < 10 ^ suc k → n < 10 ^ width k n) → (t : Bool) → ltb n (10 ^ suc k) ≡ t → n < 10 ^ cond t (width k n) (suc (suc k))
    go ih true e = ih (ltb-true n (10 ^ suc k) e)
    go ih false e = h

width_first : (k n : ℕ) → 1 < width k n → 10 ^ (width k n - 1) ≤ n
width_first zero n h = absurd (omega arith)
width_first (suc k) n h = go (width_first k n) (ltb n (10 ^ suc k)) refl h
  where
    go : (1 < width k n → 10 ^ (width k n - 1) ≤ n) → (t : Bool) → ltb n (10 ^ suc k) ≡ t → 1 < cond t (width k n) (suc (suc k)) →
        10 ^ (cond t (width k n) (suc (suc k)) - 1) ≤ n
    go ih true e h = ih h
    go ih false e h = rw sub-one (ltb-false n (10 ^ suc k) e)

-- of two widths that hold n, one that no fewer do is not the larger
narrower : (n v w : ℕ) → n < 10 ^ v → 1 ≤ v → (1 < w → 10 ^ (w - 1) ≤ n) → w ≤ v
narrower n v w h l f = go (leb w v) refl
  where
    go : (t : Bool) → leb w v ≡ t → w ≤ v
    go true e = leb-true w v e
    go false e =
        let q : v < w = leb-false w v e in
        let a : 10 ^ (w - 1) ≤ n = f (omega arith) in
        let b : 10 ^ v ≤ 10 ^ (w - 1) = pow-le-pow_right (omega arith) (omega arith) in
        absurd (omega arith)

pub width_is : (k n w : ℕ) → 1 ≤ w → w ≤ suc k → n < 10 ^ w → (1 < w → 10 ^ (w - 1) ≤ n) → width k n ≡ w
width_is k n w l h f g =
    let m : n < 10 ^ suc k = omega (arith, pow-le-pow_right {n = 10} (omega arith) {i = w} {j = suc k} h) in
    omega (arith, narrower n w (width k n) f l (width_first k n), narrower n (width k n) w (width_holds k n m) (width_least k n) g)

-- the number text of n is as long as n is wide
pub text_fixed : (n : ℕ) → decimal n ≡ fixed (length (decimal n)) n
unfolding decimal
text_fixed n = ap (λ (w : ℕ). fixed w n) (sym (fixed_length (width 101 n) n))

pub text_size_is : (n w : ℕ) → 1 ≤ w → w ≤ 102 → n < 10 ^ w → (1 < w → 10 ^ (w - 1) ≤ n) → w ≡ length (decimal n)
unfolding decimal
text_size_is n w l m h f = sym (fixed_length (width 101 n) n ∙ width_is 101 n w l m h f)

pub text_size_le : (n m : ℕ) → 1 ≤ m → n < 10 ^ m → length (decimal n) ≤ m
unfolding decimal
text_size_le n m l h = rw fixed_length (narrower n m (width 101 n) h l (width_first 101 n))

pub text_some : (n : ℕ) → 0 < length (decimal n)
unfolding decimal
text_some n = rw fixed_length (width_least 101 n)

pub text_small : (n : ℕ) → length (decimal n) ≤ 102
unfolding decimal
text_small n = rw fixed_length (width_most 101 n)

-- with o groups below the highest it has three digits more for each
pub text_above : (n o : ℕ) → o < 34 → n / 1000 ^ o < 1000 → (0 < o → 1000 ^ o ≤ n) → o * 3 + length (decimal (n / 1000 ^ o)) ≡ length (decimal n)
unfolding decimal
text_above n o s h f =
    let x : ℕ = n / 1000 ^ o in
    let k : ℕ = width 101 x in
    let l : length (decimal x) ≡ k = fixed_length k x in
    let least : 1 ≤ k = width_least 101 x in
    let most : k ≤ 3 = narrower x 3 k h (omega arith) (width_first 101 x) in
    let c : 0 < 1000 ^ o = one-le-pow o 1000 (omega arith) in
    let holds : n < 10 ^ (o * 3 + k) =
    rw (add_comm (o * 3) k, pow-add 10 k (o * 3), thousand o) ((div-lt_iff_lt-mul c).0 (width_holds 101 x (lt_of_lt_of_le h (pow-le-pow_right {n = 10} (omega arith) {i = 3} {j = 102} (omega arith))))) in
    let first : 1 < o * 3 + k → 10 ^ (k - 1) ≤ x = λ q. lead k least (width_first 101 x) (λ e. (le-div_iff_mul-le c).1 (rw one-mul (f (omega arith)))) in
    let full : 1 < o * 3 + k → 10 ^ (o * 3 + k - 1) ≤ n = λ q.
    let e : o * 3 + k - 1 ≡ (k - 1) + o * 3 = omega arith in
    rw (e, pow-add 10 (k - 1) (o * 3), thousand o) ((le-div_iff_mul-le c).0 (first q)) in
    rw l (text_size_is n (o * 3 + k) (omega arith) (omega arith) holds full)
  where
    lead : (k : ℕ) → 1 ≤ k → (1 < k → 10 ^ (k - 1) ≤ n / 1000 ^ o) → (k ≡ 1 → 1 ≤ n / 1000 ^ o) → 10 ^ (k - 1) ≤ n / 1000 ^ o
    lead zero l g e = absurd (omega arith)
    lead (suc zero) l g e = e refl
    lead (suc (suc k)) l g e = g (omega arith)

-- a plain text is the number text of its value
width_plain : (k : ℕ) (xs : List ℕ) → plain xs ≡ true → length xs ≤ suc k → width k (value xs) ≡ length xs
width_plain k [] p h = cc
width_plain k (b ∷ bs) p h =
    width_is k (value (b ∷ bs)) (suc (length bs)) (omega arith) h
    (value_lt (b ∷ bs) (plain_digits (b ∷ bs) p))
    (λ q. rw sub-one (plain_least b bs p q))

pub text_value : (xs : List ℕ) → plain xs ≡ true → length xs ≤ 102 → decimal (value xs) ≡ xs
unfolding decimal
text_value xs p h = rw (width_plain 101 xs p h) (fixed_value xs (plain_digits xs p))

-- digits of a number whose first is above 0, or of which there is one, are plain
lone_digit : (b : ℕ) → digits (b ∷ []) ≡ true → plain (b ∷ []) ≡ true
lone_digit b d = go (eqb b 48)
  where
    go : (t : Bool) → cond t true (digits (b ∷ [])) ≡ true
    go true = refl
    go false = d

plain_fixed : (w n : ℕ) → 1 ≤ w → n < 10 ^ w → (1 < w → 10 ^ (w - 1) ≤ n) → plain (fixed w n) ≡ true
plain_fixed zero n l h f = absurd (omega arith)
plain_fixed (suc zero) n l h f = lone_digit (48 + n / 10 ^ zero % 10) (fixed_digits 1 n)
plain_fixed (suc (suc k)) n l h f =
    plain_other (fixed (suc (suc k)) n) (λ z. omega arith)
    (λ z. let a : n < 10 ^ suc k = lead_zero 10 (suc k) n (omega arith) h (omega arith) in
    let b : 10 ^ suc k ≤ n = rw sub-one at (f (omega arith)) in
    absurd (omega arith)) ∙
    fixed_digits (suc (suc k)) n

-- the number text of n is plain, and its value is n
module _ (n : ℕ) (h : n < 10 ^ 102) where
  pub value_text : value (decimal n) ≡ n
  unfolding decimal
  value_text = value_fixed (width 101 n) n ∙ mod-eq_of_lt (width_holds 101 n h)

  pub plain_text : plain (decimal n) ≡ true
  unfolding decimal
  plain_text = plain_fixed (width 101 n) n (width_least 101 n) (width_holds 101 n h) (width_first 101 n)
