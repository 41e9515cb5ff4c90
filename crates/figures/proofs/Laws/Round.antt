-- There and back: a money text to its parts to the text.
-- Assumes nothing.
use Rattle.std.proofs.Common.{◌≡◌, ℕ, zero, suc, ◌+◌, ◌-◌, ◌^◌, ◌<◌, ◌≤◌, Bool, true, false, not, eqb, leb, List, [], ◌∷◌, ◌++◌, length, get_or, take, drop, sym, refl, ap, ◌∙◌, append-nil, mod-eq_of_lt, arith, length-append, length-take, eqb-true, le-leb}
use mathlib.Core.Bool.{and-eq-true_iff}
use lib.Seq.{split_at, get_or-append_seam, take-append_seam, drop-append-add}
use borrow.Author.Tests.{eqb-false, not-true}
use Rattle.figures.specs.Money.{pointed, whole_text, hundredths_text, are_hundredths, money_formed, money_limit}
use Rattle.figures.specs.Value.{IsAmount}
use Rattle.figures.specs.Text.{digits, plain, value, negative, unsigned}
use Rattle.figures.specs.Written.{decimal, fixed, money_decimal}
use Rattle.figures.proofs.Laws.Digits.{and_both}
use Rattle.figures.proofs.Laws.Money.{digits_whole, money_none, pointed_size, hundredths_size, money_plain, money_pointed, money_some, whole_plain}
use Rattle.figures.proofs.Laws.Plain.{plain_digits}
use Rattle.figures.proofs.Laws.Sign.{digits_unsigned, unsigned_plain, formed_unsigned, plain_size}
use Rattle.figures.proofs.Laws.Text.{value_fixed, fixed_digits, plain_text, fixed_value, text_value, value_text}

-- a text is what stands before its '.', the '.', and what stands after
pointed_is : (xs : List ℕ) → pointed xs ≡ true → take (length xs - 3) xs ++ (46 ∷ drop (length xs - 2) xs) ≡ xs
pointed_is xs e =
    let l : 3 ≤ length xs = pointed_size xs e in
    let i : length xs - 3 < length xs = omega arith in
    let d : get_or xs (length xs - 3) 0 ≡ 46 = eqb-true (get_or xs (length xs - 3) 0) 46 ((and-eq-true_iff (leb 3 (length xs)) (eqb (get_or xs (length xs - 3) 0) 46)).0 e).1 in
    let k : suc (length xs - 3) ≡ length xs - 2 = omega arith in
    sym (rw (d, k) at (split_at xs (length xs - 3) 0 i))

pub negative_take : (k : ℕ) (xs : List ℕ) → negative xs ≡ false → negative (take k xs) ≡ false
negative_take zero xs e = refl
negative_take (suc k) [] e = refl
negative_take (suc k) (x ∷ r) e = e

-- a money text is that of its whole part and its hundredths
pub money_round : (xs : List ℕ) → money_formed xs ≡ true → negative xs ≡ false → length xs ≤ 102 →
    money_decimal (value (unsigned (whole_text xs))) (value (hundredths_text xs)) ≡ xs
money_round xs f n h = go (pointed xs) refl
  where
    go : (t : Bool) → pointed xs ≡ t → money_decimal (value (unsigned (whole_text xs))) (value (hundredths_text xs)) ≡ xs
    go false e =
        let u : unsigned xs ≡ xs = unsigned_plain xs n in
        let p : plain xs ≡ true = ap plain (sym u) ∙ formed_unsigned xs (sym (money_plain xs e) ∙ f) in
        rw (e, u) (append-nil (decimal (value xs)) ∙ text_value xs p h)
    go true e =
        let w : List ℕ = take (length xs - 3) xs in
        let d : List ℕ = drop (length xs - 2) xs in
        let ew : unsigned (whole_text xs) ≡ w = rw e (unsigned_plain w (negative_take (length xs - 3) xs n)) in
        let ed : hundredths_text xs ≡ d = rw e in
        let pw : plain w ≡ true = ap plain (sym ew) ∙ whole_plain xs f in
        let lw : length w ≤ 102 = rw length-take (omega arith) in
        let c = (and-eq-true_iff (digits (hundredths_text xs)) (not (eqb (value (hundredths_text xs)) 0))).0 (sym (money_pointed xs e (whole_plain xs f)) ∙ f) in
        let dd : digits d ≡ true = ap digits (sym ed) ∙ c.0 in
        let nz : value (hundredths_text xs) ≡ 0 → ⊥ = eqb-false (value (hundredths_text xs)) 0 (not-true (eqb (value (hundredths_text xs)) 0) c.1) in
        let l2 : length d ≡ 2 = ap length (sym ed) ∙ hundredths_size xs e in
        let a : decimal (value (unsigned (whole_text xs))) ≡ w = ap (λ (l : List ℕ). decimal (value l)) ew ∙ text_value w pw lw in
        let b : fixed 2 (value (hundredths_text xs)) ≡ d = ap (λ (l : List ℕ). fixed 2 (value l)) ed ∙ ap (λ (k : ℕ). fixed k (value d)) (sym l2) ∙ fixed_value d dd in
        money_some (value (unsigned (whole_text xs))) (value (hundredths_text xs)) nz ∙ rw (a, b) (pointed_is xs e)

-- of digits alone
amount_whole : (xs : List ℕ) → plain xs ≡ true → IsAmount (value xs) 0 xs
amount_whole xs p =
    let d : digits xs ≡ true = plain_digits xs p in
    let n : negative xs ≡ false = digits_unsigned xs d in
    let u : unsigned xs ≡ xs = unsigned_plain xs n in
    let e : pointed xs ≡ false = digits_whole xs d in
    record { formed = rw (e, u, p, n); sign = n; whole_is = rw (e, u); hundredths_are = rw e }

-- of digits, '.', and two digits that are not both zero
module _ (a b : List ℕ) (p : plain a ≡ true) (d : are_hundredths b ≡ true) (l : length b ≡ 2) where
  abbrev xs : List ℕ
  xs = a ++ (46 ∷ b)

  size : length xs ≡ length a + 3
  size = length-append a (46 ∷ b) ∙ omega arith

  point : pointed xs ≡ true
  point =
      let i : length xs - 3 ≡ length a = omega (arith, size) in
      and_both (le-leb 3 (length xs) (omega (arith, size))) (rw (i, get_or-append_seam a 46 b 0))

  front : whole_text xs ≡ a
  front = let i : length xs - 3 ≡ length a = omega (arith, size) in rw (point, i) (take-append_seam a (46 ∷ b))

  back : hundredths_text xs ≡ b
  back = let i : length xs - 2 ≡ length a + 1 = omega (arith, size) in rw (point, i) (drop-append-add a (46 ∷ b) 1)

  unsigned_front : negative xs ≡ false
  unsigned_front = go a p
    where
      go : (t : List ℕ) → plain t ≡ true → negative (t ++ (46 ∷ b)) ≡ false
      go [] q = cc
      go (x ∷ t) q = digits_unsigned (x ∷ t) (plain_digits (x ∷ t) q)

  amount_both : IsAmount (value a) (value b) xs
  amount_both =
      let n : unsigned (whole_text xs) ≡ a = ap unsigned front ∙ unsigned_plain a (digits_unsigned a (plain_digits a p)) in
      record {
        formed = money_pointed xs point (ap plain n ∙ p) ∙ ap are_hundredths back ∙ d;
        sign = unsigned_front;
        whole_is = ap value n;
        hundredths_are = ap value back;
      }

pub amount_text : (w h : ℕ) → w < 10 ^ 102 → h < 100 → IsAmount w h (money_decimal w h)
amount_text w h l m = go (eqb h 0) refl
  where
    go : (t : Bool) → eqb h 0 ≡ t → IsAmount w h (money_decimal w h)
    go true e =
        let z : h ≡ 0 = eqb-true h 0 e in
        rw (money_none w h z, z) (rw (value_text w l) at (amount_whole (decimal w) (plain_text w l)))
    go false e =
        let n : h ≡ 0 → ⊥ = eqb-false h 0 e in
        let v : value (fixed 2 h) ≡ h = value_fixed 2 h ∙ mod-eq_of_lt m in
        let d : are_hundredths (fixed 2 h) ≡ true = and_both (fixed_digits 2 h) (ap not (ap (λ (k : ℕ). eqb k 0) v ∙ e)) in
        rw (money_some w h n) (rw (value_text w l, v) at (amount_both (decimal w) (fixed 2 h) (plain_text w l) d refl))

-- an amount's text is the one that is written
pub amount_is : {w h : ℕ} {t : List ℕ} → IsAmount w h t → w ≤ money_limit → t ≡ money_decimal w h
amount_is {w} {h} {t} x l =
    let s : length (unsigned (whole_text t)) ≤ 20 = plain_size (unsigned (whole_text t)) 20 (whole_plain t x.formed) (omega arith) (rw x.whole_is (omega arith)) in
    sym (rw (x.whole_is, x.hundredths_are) at (money_round t x.formed x.sign (short s)))
  where
    short : length (unsigned (whole_text t)) ≤ 20 → length t ≤ 102
    short s = go (pointed t) refl
      where
        go : (b : Bool) → pointed t ≡ b → length t ≤ 102
        go false e = let u : length (unsigned t) ≤ 20 = rw e at s in omega (arith, u, ap length (unsigned_plain t x.sign))
        go true e =
            let u : length (take (length t - 3) t) ≤ 20 = rw (unsigned_plain (take (length t - 3) t) (negative_take (length t - 3) t x.sign)) at (rw e at s) in
            omega (arith, rw length-take at u)
