-- Codes by their numbers: two codes with one number are the same, so the currency of a number is that of the code.
-- Assumes nothing.
use Prim.Native.Nat.{ℕ, zero, suc, ◌+◌, ◌-◌, ◌*◌, ◌^◌, ◌<◌, ◌≤◌}
use mathlib.Core.Path.{◌≡◌, refl, sym, ap, ◌∙◌}
use mathlib.Core.Bool.{Bool, true, false, ◌&&◌}
use mathlib.Core.List.{List, [], ◌∷◌, ◌++◌}
use native.Mathlib.Omega.{arith}
use native.Mathlib.Nat.{pow-succ', one-le-pow}
use borrow.Author.Tests.{eq-eqb, ne_eqb, ltb-true, leb-true}
use lib.Dec.{eqb, ltb, leb}
use lib.ListN.{length, get_or}
use Rattle.base.specs.Utf8.{utf8}
use Rattle.base.specs.Same.{same_text}
use Rattle.base.proofs.Same.{same_is, same_not, other_length}
use Rattle.tables.proofs.Tests.{and_left, and_right}
use Rattle.uk_money.specs.Currencies.{Currency, currencies}
use Rattle.uk_money.specs.Rows.{code_place_in, code_key, place_by_key}

-- two byte strings with one number
abbrev Bytes : List ℕ → Type 0
Bytes s = (i : ℕ) → get_or s i 0 < 256

key_some : (s : List ℕ) → 0 < code_key s
key_some [] = omega arith
key_some (b ∷ s) = let h = key_some s in omega arith

one_key : (w s : List ℕ) → Bytes w → Bytes s → code_key w ≡ code_key s → w ≡ s
one_key [] [] f g e = refl
one_key [] (b ∷ s) f g e = let h = key_some s in absurd (omega arith)
one_key (a ∷ w) [] f g e = let h = key_some w in absurd (omega arith)
one_key (a ∷ w) (b ∷ s) f g e =
    let p : a < 256 = f 0 in
    let q : b < 256 = g 0 in
    let x : a ≡ b = omega arith in
    let y : code_key w ≡ code_key s = omega arith in
    rw (x, one_key w s (λ i. f (suc i)) (λ i. g (suc i)) y) refl

same_key : (w s : List ℕ) → Bytes w → Bytes s → eqb (code_key s) (code_key w) ≡ same_text w s
same_key w s f g = go (same_text w s) refl
  where
    go : (t : Bool) → same_text w s ≡ t → eqb (code_key s) (code_key w) ≡ t
    go true e = eq-eqb (code_key s) (code_key w) (ap code_key (sym (same_is w s e)))
    go false e = ne_eqb (code_key s) (code_key w) (λ k. same_not w s e (one_key w s f g (sym k)))

-- every code of a list has bytes, and few
abbrev bytes? : List ℕ → Bool
bytes? [] = true
bytes? (b ∷ s) = ltb b 256 && bytes? s

abbrev pub codes? : List Currency → Bool
codes? [] = true
codes? (c ∷ cs) = (leb (length (utf8 c.code)) 6 && bytes? (utf8 c.code)) && codes? cs

bytes_is : (s : List ℕ) → bytes? s ≡ true → Bytes s
bytes_is [] e i = omega arith
bytes_is (b ∷ s) e zero = ltb-true b 256 (and_left (ltb b 256) (bytes? s) e)
bytes_is (b ∷ s) e (suc i) = bytes_is s (and_right (ltb b 256) (bytes? s) e) i

module _ (c : Currency) (cs : List Currency) (e : codes? (c ∷ cs) ≡ true) where
  first : (leb (length (utf8 c.code)) 6 && bytes? (utf8 c.code)) ≡ true
  first = and_left (leb (length (utf8 c.code)) 6 && bytes? (utf8 c.code)) (codes? cs) e

  first_size : length (utf8 c.code) ≤ 6
  first_size = leb-true (length (utf8 c.code)) 6 (and_left (leb (length (utf8 c.code)) 6) (bytes? (utf8 c.code)) first)

  first_bytes : Bytes (utf8 c.code)
  first_bytes = bytes_is (utf8 c.code) (and_right (leb (length (utf8 c.code)) 6) (bytes? (utf8 c.code)) first)

  others : codes? cs ≡ true
  others = and_right (leb (length (utf8 c.code)) 6 && bytes? (utf8 c.code)) (codes? cs) e

-- the currency of a code's number is that of the code; a longer text is no code
place_key : (cs : List Currency) (s : List ℕ) → codes? cs ≡ true → Bytes s → place_by_key cs (code_key s) ≡ code_place_in cs s
unfolding place_by_key code_place_in
place_key [] s e g = refl
place_key (c ∷ cs) s e g = rw (same_key (utf8 c.code) s (first_bytes c cs e) g, place_key cs s (others c cs e) g) refl

place_long : (cs : List Currency) (s : List ℕ) → codes? cs ≡ true → 6 < length s → code_place_in cs s ≡ length cs
unfolding code_place_in
place_long [] s e h = refl
place_long (c ∷ cs) s e h =
    let l = first_size c cs e in
    rw (other_length (utf8 c.code) s (λ (z : length s ≡ length (utf8 c.code)). omega arith), place_long cs s (others c cs e) h) refl

all_codes : codes? currencies ≡ true
unfolding currencies
all_codes = refl

pub keyed : (s : List ℕ) → Bytes s → place_by_key currencies (code_key s) ≡ code_place_in currencies s
keyed s g = place_key currencies s all_codes g

pub too_long : (s : List ℕ) → 6 < length s → 44 ≡ code_place_in currencies s
unfolding currencies
too_long s h = sym (place_long currencies s all_codes h)

-- the number of a few bytes is small
key_below : (n : ℕ) (s : List ℕ) → Bytes s → length s ≤ n → code_key s < 2 * 256 ^ n
key_below n [] g h = let p = one-le-pow n 256 (omega arith) in omega arith
key_below zero (b ∷ s) g h = absurd (omega arith)
key_below (suc n) (b ∷ s) g h =
    let p : b < 256 = g 0 in
    let q = key_below n s (λ i. g (suc i)) (omega arith) in
    rw (pow-succ' 256 n) (omega arith)

-- the number of some bytes before others, whose number this is
unfoldable pub key_onto : ℕ → List ℕ → ℕ
key_onto key [] = key
key_onto key (b ∷ s) = b + 256 * key_onto key s

pub key_onto_end : (s : List ℕ) → key_onto 1 s ≡ code_key s
unfolding key_onto
key_onto_end [] = refl
key_onto_end (b ∷ s) = rw (key_onto_end s) refl

pub key_onto_last : (key b : ℕ) (s : List ℕ) → key_onto key (s ++ b ∷ []) ≡ key_onto (key * 256 + b) s
unfolding key_onto
key_onto_last key b [] = omega arith
key_onto_last key b (a ∷ s) = rw (key_onto_last key b s) refl

key_onto_le : (key : ℕ) (s : List ℕ) → key ≤ key_onto key s
unfolding key_onto
key_onto_le key [] = omega arith
key_onto_le key (b ∷ s) = let h = key_onto_le key s in omega arith

-- one byte more does not overflow
pub key_fits : (code s : List ℕ) (key b : ℕ) → Bytes code → length code ≤ 6 → code_key code ≡ key_onto key (s ++ b ∷ []) → key * 256 + b < 2 ^ 64
key_fits code s key b g h e = omega (arith, key_below 6 code g h, key_onto_le (key * 256 + b) s, key_onto_last key b s)
