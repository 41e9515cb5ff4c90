-- Plain texts compared as numbers.
-- Assumes nothing.
use Rattle.std.proofs.Common.{◌≡◌, ℕ, suc, ◌+◌, ◌-◌, ◌*◌, ◌^◌, ◌<◌, ◌≤◌, Bool, true, false, leb, List, [], ◌∷◌, length, sym, refl, ◌∙◌, le_trans, lt_of_lt_of_le, arith, le-leb, leb-false, leb-true}
use native.Mathlib.Nat.{pow-le-pow_right}
use lib.Arith.{digits_lt}
use borrow.Author.Tests.{lt-leb}
use Rattle.std.specs.Cmp.{ranked}
use Rattle.std.specs.Cmp.Lexicographic.{slice_partial_cmp}
use Rattle.std.specs.Ordering.{MatchOrdering, nat_cmp, is_le, is_some_and, partial_ordering_then}
use Rattle.std.specs.Prelude.{Some}
use Rattle.std.specs.declared.cmp.Ordering.{Ordering}
use Rattle.std.specs.declared.cmp.Ordering.TheVariants.{Less, Equal, Greater}
use Rattle.figures.specs.Text.{digits, plain, value}
use Rattle.figures.proofs.Laws.Digits.{value_lt, digits_head, digits_tail, digit_low}
use Rattle.figures.proofs.Laws.Plain.{plain_digits, plain_least}

leb_add : (a x y : ℕ) → leb (a + x) (a + y) ≡ leb x y
leb_add a x y = go (leb x y) refl
  where
    go : (t : Bool) → leb x y ≡ t → leb (a + x) (a + y) ≡ t
    go true e = let h : x ≤ y = leb-true x y e in le-leb (a + x) (a + y) (omega arith)
    go false e = let h : y < x = leb-false x y e in lt-leb (a + x) (a + y) (omega arith)

-- a shorter plain text is less
pub shorter : (s l : List ℕ) → plain s ≡ true → plain l ≡ true → length s < length l → value s < value l
shorter s [] p q h = absurd (omega arith)
shorter [] (b ∷ bs) p q h = let z : ◌≡◌ {A = ℕ} 0 1 = cc in absurd (omega arith)
shorter (a ∷ as') (b ∷ bs) p q h =
    lt_of_lt_of_le (value_lt (a ∷ as') (plain_digits (a ∷ as') p))
    (le_trans (pow-le-pow_right {n = 10} (omega arith) {i = suc (length as')} {j = length bs} (omega arith)) (plain_least b bs q (omega arith)))

-- how the library orders bytes of one length: the first that differs decides
abbrev in_order : List ℕ → List ℕ → Bool
in_order s l = is_some_and is_le (slice_partial_cmp (λ x y. Some (nat_cmp x y)) s l)

-- so it orders digits by their values
pub digits_order : (s l : List ℕ) → digits s ≡ true → digits l ≡ true → length s ≡ length l → in_order s l ≡ leb (value s) (value l)
digits_order [] [] p q e = refl
digits_order [] (b ∷ l) p q e = absurd (omega arith)
digits_order (a ∷ s) [] p q e = absurd (omega arith)
digits_order (a ∷ s) (b ∷ l) p q e =
    let same : length s ≡ length l = omega arith in
    let ds : digits s ≡ true = digits_tail a s p in
    let dl : digits l ≡ true = digits_tail b l q in
    turn (digit_low a (digits_head a s p)) (digit_low b (digits_head b l q)) (rw same at (value_lt s ds)) (value_lt l dl) same (digits_order s l ds dl same) (nat_cmp a b)
    (ranked a b (nat_cmp a b) refl)
  where
    turn : 48 ≤ a → 48 ≤ b → value s < 10 ^ length l → value l < 10 ^ length l → length s ≡ length l → in_order s l ≡ leb (value s) (value l) → (o : Ordering)
        → MatchOrdering o (a < b) (a ≡ b) (b < a)
        → is_some_and is_le (partial_ordering_then (Some o) (slice_partial_cmp (λ x y. Some (nat_cmp x y)) s l))
        ≡ leb ((a - 48) * 10 ^ length s + value s) ((b - 48) * 10 ^ length l + value l)
    turn la lb vs vl same e Less h =
        let first : a - 48 < b - 48 = omega arith in
        let below : (a - 48) * 10 ^ length l + value s < (b - 48) * 10 ^ length l = digits_lt first vs in
        rw same (sym (le-leb _ _ (omega arith)))
    turn la lb vs vl same e Equal h = rw (h, same) (e ∙ sym (leb_add ((b - 48) * 10 ^ length l) (value s) (value l)))
    turn la lb vs vl same e Greater h =
        let first : b - 48 < a - 48 = omega arith in
        let below : (b - 48) * 10 ^ length l + value l < (a - 48) * 10 ^ length l = digits_lt first vl in
        rw same (sym (lt-leb _ _ (omega arith)))
