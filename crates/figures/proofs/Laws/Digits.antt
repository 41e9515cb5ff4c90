-- Digits and what they mean.
-- Assumes nothing.
use Rattle.std.proofs.Common.{◌≡◌, ℕ, zero, suc, ◌+◌, ◌-◌, ◌*◌, ◌/◌, ◌%◌, ◌^◌, ◌<◌, ◌≤◌, Bool, true, ◌&&◌, leb, List, [], ◌∷◌, ◌++◌, length, get_or, take, drop, sym, refl, ap, ◌∙◌, add_assoc, mul_assoc, add-mul, mul-le-mul_left, pow-suc, add-one, arith, length-append, take-append-drop, take-suc, pow-add, le-leb, leb-true}
use native.Mathlib.Nat.{one-le-pow, pow-succ'}
use mathlib.Core.Bool.{and-eq-true_iff}
use lib.Arith.{digits_lt, digits_div, digits_mod}
use Rattle.figures.specs.Text.{digit, digits, value}

-- two tests hold
pub and_both : {a b : Bool} → a ≡ true → b ≡ true → (a && b) ≡ true
and_both {a} {b} p q = rw (p, q)

-- powers of ten
pub ten_pos : (k : ℕ) → zero < 10 ^ k
ten_pos k = one-le-pow k 10 (omega arith)

pub thousand : (o : ℕ) → 10 ^ (o * 3) ≡ 1000 ^ o
thousand zero = refl
thousand (suc o) =
    let e : suc o * 3 ≡ o * 3 + 3 = omega arith in
    rw (e, pow-add 10 (o * 3) 3, thousand o) (sym (pow-suc 1000 o))

-- a digit is a byte from 48 to 57
pub digit_low : (b : ℕ) → digit b ≡ true → 48 ≤ b
digit_low b e = leb-true 48 b ((and-eq-true_iff (leb 48 b) (leb b 57)).0 e).0

pub digit_high : (b : ℕ) → digit b ≡ true → b ≤ 57
digit_high b e = leb-true b 57 ((and-eq-true_iff (leb 48 b) (leb b 57)).0 e).1

pub digit_is : (b : ℕ) → 48 ≤ b → b ≤ 57 → digit b ≡ true
digit_is b l h = and_both (le-leb 48 b l) (le-leb b 57 h)

-- the first digit, the others, those from an index on, one of them
pub digits_head : (b : ℕ) (bs : List ℕ) → digits (b ∷ bs) ≡ true → digit b ≡ true
digits_head b bs e = ((and-eq-true_iff (digit b) (digits bs)).0 e).0

pub digits_tail : (b : ℕ) (bs : List ℕ) → digits (b ∷ bs) ≡ true → digits bs ≡ true
digits_tail b bs e = ((and-eq-true_iff (digit b) (digits bs)).0 e).1

pub digits_drop : (n : ℕ) (xs : List ℕ) → digits xs ≡ true → digits (drop n xs) ≡ true
digits_drop zero xs e = e
digits_drop (suc n) [] e = e
digits_drop (suc n) (b ∷ bs) e = digits_drop n bs (digits_tail b bs e)

pub digits_take : (n : ℕ) (xs : List ℕ) → digits xs ≡ true → digits (take n xs) ≡ true
digits_take zero xs e = refl
digits_take (suc n) [] e = e
digits_take (suc n) (b ∷ bs) e = and_both (digits_head b bs e) (digits_take n bs (digits_tail b bs e))

pub digits_at : (xs : List ℕ) (i : ℕ) → digits xs ≡ true → i < length xs → digit (get_or xs i 0) ≡ true
digits_at [] i e h = absurd (omega arith)
digits_at (b ∷ bs) zero e h = digits_head b bs e
digits_at (b ∷ bs) (suc i) e h = digits_at bs i (digits_tail b bs e) (omega arith)

-- a value fits its number of digits
pub value_lt : (xs : List ℕ) → digits xs ≡ true → value xs < 10 ^ length xs
value_lt [] e = ten_pos 0
value_lt (b ∷ bs) e =
    let hb : b ≤ 57 = digit_high b (digits_head b bs e) in
    let q : b - 48 < 10 = omega arith in
    rw pow-succ' (digits_lt q (value_lt bs (digits_tail b bs e)))

pub value_append : (xs ys : List ℕ) → value (xs ++ ys) ≡ value xs * 10 ^ length ys + value ys
value_append [] ys = omega arith
value_append (b ∷ bs) ys =
    let go : (b - 48) * 10 ^ length (bs ++ ys) + value (bs ++ ys) ≡ ((b - 48) * 10 ^ length bs + value bs) * 10 ^ length ys + value ys =
    rw (length-append bs ys, pow-add, value_append bs ys, add-mul) (simp (mul_assoc, add_assoc)) in
    go

-- the value of the first i + 1 digits, and of no more than all
pub value_turn : (s : List ℕ) (i j : ℕ) → j ≡ i + 1 → i < length s → value (take j s) ≡ value (take i s) * 10 + (get_or s i 0 - 48)
value_turn s i j e h = rw (e, add-one, take-suc s i 0, value_append) (omega arith)

pub value_part : (s : List ℕ) (i : ℕ) → value (take i s) ≤ value s
value_part s i =
    let e : value s ≡ value (take i s) * 10 ^ length (drop i s) + value (drop i s) =
    ap value (sym (take-append-drop i s)) ∙ value_append (take i s) (drop i s) in
    let m : value (take i s) * 1 ≤ value (take i s) * 10 ^ length (drop i s) = mul-le-mul_left (value (take i s)) (ten_pos (length (drop i s))) in
    omega arith

-- digits of one length are determined by their value
pub value_inj : (xs ys : List ℕ) → digits xs ≡ true → digits ys ≡ true → length xs ≡ length ys → value xs ≡ value ys → xs ≡ ys
value_inj [] [] e f l v = refl
value_inj [] (y ∷ ys) e f l v = absurd (omega arith)
value_inj (x ∷ xs) [] e f l v = absurd (omega arith)
value_inj (x ∷ xs) (y ∷ ys) e f l v =
    let len : length xs ≡ length ys = omega arith in
    let k : ℕ = length ys in
    let lx : value xs < 10 ^ k = rw len at (value_lt xs (digits_tail x xs e)) in
    let ly : value ys < 10 ^ k = value_lt ys (digits_tail y ys f) in
    let v₁ : (x - 48) * 10 ^ k + value xs ≡ (y - 48) * 10 ^ k + value ys = rw len at v in
    let first : x - 48 ≡ y - 48 = sym (digits_div (x - 48) lx) ∙ ap (λ (n : ℕ). n / 10 ^ k) v₁ ∙ digits_div (y - 48) ly in
    let rest : value xs ≡ value ys = sym (digits_mod (x - 48) lx) ∙ ap (λ (n : ℕ). n % 10 ^ k) v₁ ∙ digits_mod (y - 48) ly in
    let bx : 48 ≤ x = digit_low x (digits_head x xs e) in
    let by : 48 ≤ y = digit_low y (digits_head y ys f) in
    let same : x ≡ y = omega arith in
    let others : xs ≡ ys = value_inj xs ys (digits_tail x xs e) (digits_tail y ys f) len rest in
    cc
