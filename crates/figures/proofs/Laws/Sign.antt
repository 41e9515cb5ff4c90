-- Texts with a sign.
-- Assumes nothing.
use Rattle.std.proofs.Common.{◌≡◌, ℕ, suc, ◌^◌, ◌<◌, ◌≤◌, Bool, true, false, cond, not, ◌&&◌, eqb, leb, List, [], ◌∷◌, length, get_or, sym, refl, ap, ◌∙◌, arith, eq-eqb, ne_eqb, eqb-true, leb-false, leb-true}
use native.Mathlib.Nat.{pow-le-pow_right}
use mathlib.Core.Bool.{and-eq-true_iff}
use borrow.Author.Tests.{not-true}
use Rattle.figures.specs.Text.{digits, plain, value, well_formed, negative, unsigned}
use Rattle.figures.specs.Written.{decimal, signed_decimal}
use Rattle.figures.specs.Value.{IsNumber}
use Rattle.figures.proofs.Laws.Digits.{and_both, digit_low, digits_head}
use Rattle.figures.proofs.Laws.Plain.{plain_digits, plain_least, plain_first}
use Rattle.figures.proofs.Laws.Text.{text_value, value_text, plain_text}

-- the sign by the first byte, and what stands after it
pub negative_first : (s : List ℕ) → negative s ≡ eqb (get_or s 0 0) 45
negative_first [] = refl
negative_first (b ∷ bs) = refl

pub unsigned_plain : (s : List ℕ) → negative s ≡ false → unsigned s ≡ s
unsigned_plain [] e = refl
unsigned_plain (b ∷ bs) e = rw e

-- digits have no sign
pub digits_unsigned : (s : List ℕ) → digits s ≡ true → negative s ≡ false
digits_unsigned [] d = refl
digits_unsigned (b ∷ bs) d = let l : 48 ≤ b = digit_low b (digits_head b bs d) in ne_eqb b 45 (λ e. omega arith)

-- the sign and what stands after it make up the text
pub signed_is : (s : List ℕ) (m : Bool) → negative s ≡ m → cond m (45 ∷ unsigned s) (unsigned s) ≡ s
signed_is [] true e = cc
signed_is [] false e = refl
signed_is (b ∷ bs) true e = rw e (ap (λ (y : ℕ). y ∷ bs) (sym (eqb-true b 45 e)))
signed_is (b ∷ bs) false e = rw e

-- a well formed text is plain after its sign
pub formed_unsigned : (s : List ℕ) → well_formed s ≡ true → plain (unsigned s) ≡ true
formed_unsigned s f = ((and-eq-true_iff (plain (unsigned s)) (not (negative s && eqb (value (unsigned s)) 0))).0 f).0

formed_sign : (s : List ℕ) → plain (unsigned s) ≡ true → negative s ≡ true → well_formed s ≡ not (eqb (value (unsigned s)) 0)
formed_sign s p m = rw (p, m)

pub formed_minus : (s : List ℕ) → plain (unsigned s) ≡ true → negative s ≡ true → well_formed s ≡ not (eqb (get_or (unsigned s) 0 0) 48)
formed_minus s p m = formed_sign s p m ∙ ap not (sym (plain_first (unsigned s) p))

-- a well formed text that means 0 has no sign, and is the one that begins with '0'
pub zero_plain_lem : (s : List ℕ) → well_formed s ≡ true → value (unsigned s) ≡ 0 → negative s ≡ false
zero_plain_lem s f v = go (negative s) refl
  where
    go : (t : Bool) → negative s ≡ t → t ≡ false
    go false e = refl
    go true e =
        let a : well_formed s ≡ not (eqb (value (unsigned s)) 0) = formed_sign s (formed_unsigned s f) e in
        let b : eqb (value (unsigned s)) 0 ≡ true = eq-eqb (value (unsigned s)) 0 v in
        cc

pub zero_first : (s : List ℕ) → well_formed s ≡ true → eqb (get_or s 0 0) 48 ≡ eqb (value (unsigned s)) 0
zero_first s f = go (negative s) refl
  where
    go : (t : Bool) → negative s ≡ t → eqb (get_or s 0 0) 48 ≡ eqb (value (unsigned s)) 0
    go false e = ap (λ (l : List ℕ). eqb (get_or l 0 0) 48) (sym (unsigned_plain s e)) ∙ plain_first (unsigned s) (formed_unsigned s f)
    go true e =
        let m : get_or s 0 0 ≡ 45 = eqb-true (get_or s 0 0) 45 (sym (negative_first s) ∙ e) in
        let v : not (eqb (value (unsigned s)) 0) ≡ true = sym (formed_sign s (formed_unsigned s f) e) ∙ f in
        ne_eqb (get_or s 0 0) 48 (λ q. omega arith) ∙ sym (not-true (eqb (value (unsigned s)) 0) v)

-- the number text of n, or of -n where n is above 0, is well formed, and means n with its sign
pub number_text : (minus : Bool) (n : ℕ) → n < 10 ^ 102 → (minus ≡ true → 0 < n) → IsNumber minus n (signed_decimal minus n)
number_text minus n h p = go minus p (decimal n) (plain_text n h) (value_text n h)
  where
    go : (m : Bool) → (m ≡ true → 0 < n) → (t : List ℕ) → plain t ≡ true → value t ≡ n → IsNumber m n (cond m (45 ∷ t) t)
    go true p t f v = record { formed = and_both f (ap not (ne_eqb (value t) 0 (λ z. omega (arith, p refl)))); sign = refl; means = v }
    go false p t f v =
        let e : negative t ≡ false = digits_unsigned t (plain_digits t f) in
        let u : unsigned t ≡ t = unsigned_plain t e in
        record { formed = rw (u, f, e); sign = e; means = rw u v }

-- a plain text is no longer than a power of ten above its value tells
pub plain_size : (t : List ℕ) (most : ℕ) → plain t ≡ true → 1 ≤ most → value t < 10 ^ most → length t ≤ most
plain_size [] most p l h = omega arith
plain_size (b ∷ bs) most p l h = go (leb (suc (length bs)) most) refl
  where
    go : (c : Bool) → leb (suc (length bs)) most ≡ c → suc (length bs) ≤ most
    go true e = leb-true (suc (length bs)) most e
    go false e =
        let q : most < suc (length bs) = leb-false (suc (length bs)) most e in
        let a : 10 ^ length bs ≤ value (b ∷ bs) = plain_least b bs p (omega arith) in
        let c : 10 ^ most ≤ 10 ^ length bs = pow-le-pow_right {n = 10} (omega arith) {i = most} {j = length bs} (omega arith) in
        absurd (omega arith)

-- so of a number text
module _ {minus : Bool} {n : ℕ} {t : List ℕ} (x : IsNumber minus n t) where
  pub number_size : (most : ℕ) → 1 ≤ most → n < 10 ^ most → length (unsigned t) ≤ most
  number_size most l h = plain_size (unsigned t) most (formed_unsigned t x.formed) l (rw x.means h)

  -- it is the one that is written
  pub number_is_lem : n < 10 ^ 102 → t ≡ signed_decimal minus n
  number_is_lem h =
      let e : decimal n ≡ unsigned t = ap decimal (sym x.means) ∙ text_value (unsigned t) (formed_unsigned t x.formed) (number_size 102 (omega arith) h) in
      sym (ap (λ (l : List ℕ). cond minus (45 ∷ l) l) e ∙ signed_is t minus x.sign)
