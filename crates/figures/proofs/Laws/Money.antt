-- Money texts.
-- Assumes nothing.
use Rattle.std.proofs.Common.{◌≡◌, ℕ, ◌+◌, ◌-◌, ◌≤◌, Bool, true, false, cond, ◌&&◌, eqb, leb, List, [], ◌∷◌, ◌++◌, length, get_or, take, drop, refl, ap, ◌∙◌, append-nil, arith, length-append, length-drop, ne_eqb, leb-true}
use mathlib.Core.Bool.{and-eq-true_iff}
use Rattle.figures.specs.Money.{pointed, whole_text, hundredths_text, are_hundredths, money_formed}
use Rattle.figures.specs.Written.{money_decimal}
use Rattle.figures.specs.Text.{digits, plain, well_formed, unsigned}
use Rattle.figures.specs.Written.{fixed, decimal}
use Rattle.figures.proofs.Laws.Digits.{digits_at, digit_low}
use Rattle.figures.proofs.Laws.Sign.{formed_unsigned}

-- the parts of a text with a '.'
pub pointed_size : (s : List ℕ) → pointed s ≡ true → 3 ≤ length s
pointed_size s e = leb-true 3 (length s) ((and-eq-true_iff (leb 3 (length s)) (eqb (get_or s (length s - 3) 0) 46)).0 e).0

pub hundredths_size : (s : List ℕ) → pointed s ≡ true → length (hundredths_text s) ≡ 2
hundredths_size s e =
    let h : 3 ≤ length s = pointed_size s e in
    rw e (length-drop (length s - 2) s ∙ omega arith)

-- digits have no '.'
pub digits_whole : (s : List ℕ) → digits s ≡ true → pointed s ≡ false
digits_whole s d = go (leb 3 (length s)) refl
  where
    go : (t : Bool) → leb 3 (length s) ≡ t → (t && eqb (get_or s (length s - 3) 0) 46) ≡ false
    go false e = refl
    go true e =
        let l : 3 ≤ length s = leb-true 3 (length s) e in
        let b : 48 ≤ get_or s (length s - 3) 0 = digit_low (get_or s (length s - 3) 0) (digits_at s (length s - 3) d (omega arith)) in
        ne_eqb (get_or s (length s - 3) 0) 46 (λ q. omega arith)

-- a money text by its parts
pub money_pointed : (s : List ℕ) → pointed s ≡ true → plain (unsigned (whole_text s)) ≡ true → money_formed s ≡ are_hundredths (hundredths_text s)
money_pointed s p q =
    let q₁ : plain (unsigned (take (length s - 3) s)) ≡ true = rw p at q in
    rw (p, q₁)

pub money_plain : (s : List ℕ) → pointed s ≡ false → money_formed s ≡ well_formed s
money_plain s p = rw p

pub whole_plain : (s : List ℕ) → money_formed s ≡ true → plain (unsigned (whole_text s)) ≡ true
whole_plain s e = go (pointed s) e
  where
    go : (t : Bool) → cond t (plain (unsigned (cond t (take (length s - 3) s) s)) && are_hundredths (cond t (drop (length s - 2) s) [])) (well_formed s) ≡ true →
        plain (unsigned (cond t (take (length s - 3) s) s)) ≡ true
    go true e = ((and-eq-true_iff (plain (unsigned (take (length s - 3) s))) (are_hundredths (drop (length s - 2) s))).0 e).0
    go false e = formed_unsigned s e

-- the money text, with hundredths and without
pub money_some : (w h : ℕ) → (h ≡ 0 → ⊥) → money_decimal w h ≡ decimal w ++ (46 ∷ fixed 2 h)
money_some w h e = rw (ne_eqb h 0 e)

pub money_none : (w h : ℕ) → h ≡ 0 → money_decimal w h ≡ decimal w
money_none w h e = rw e (append-nil (decimal w))

pub size_some : (w h : ℕ) → (h ≡ 0 → ⊥) → length (money_decimal w h) ≡ length (decimal w) + 3
size_some w h e = ap length (money_some w h e) ∙ length-append (decimal w) (46 ∷ fixed 2 h)
