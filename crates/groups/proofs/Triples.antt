-- Groups taken from digits, three at a time, and stored one after the other.
-- Assumes nothing.
use Prim.Native.Nat.{ℕ, zero, suc, ◌+◌, ◌-◌, ◌*◌, ◌/◌, ◌%◌, ◌^◌, ◌≤◌, ◌<◌}
use native.Mathlib.Nat.{pow-succ', div-one, div-div-eq-div-mul}
use native.Mathlib.Omega.{arith}
use mathlib.Core.Bool.{true}
use mathlib.Core.List.{List, [], ◌∷◌}
use mathlib.Core.Path.{◌≡◌, refl, sym, ap, ◌∙◌}
use lib.ListN.{replicate, length, get_or, take, set}
use lib.Seq.{take-length}
use Rattle.figures.specs.Groups.{groups_of}
use Rattle.figures.specs.Text.{digits, value}
use Rattle.figures.proofs.Laws.Buffer.{sofar, sofar_turn}
use Rattle.figures.proofs.Laws.Digits.{and_both, digits_at, value_turn, value_lt}
use Rattle.figures.proofs.Laws.Groups.{groups_length, groups_at}

-- a group stored at its order, after those below it
pub group_turn : (xs : List ℕ) (n o v : ℕ) → o < length xs → v ≡ n / 1000 ^ o % 1000 →
    set (sofar xs (groups_of (length xs) n) o) o v ≡ sofar xs (groups_of (length xs) n) (o + 1)
group_turn xs n o v h e =
    let l : length (groups_of (length xs) n) ≡ length xs = groups_length (length xs) n in
    rw (e ∙ sym (groups_at (length xs) n o h)) (sofar_turn xs (groups_of (length xs) n) o (omega arith) (omega arith))

-- groups past the highest are 0
zeros_after : (k n o : ℕ) → n / 1000 ^ o ≡ 0 → sofar (replicate k 0) (groups_of k n) o ≡ groups_of k n
unfolding groups_of
zeros_after zero n zero e = refl
zeros_after (suc k) n zero e =
    let z : n ≡ 0 = sym (div-one n) ∙ e in
    rw z (ap (λ (l : List ℕ). 0 ∷ l) (zeros_after k 0 zero refl))
zeros_after zero n (suc o) e = refl
zeros_after (suc k) n (suc o) e =
    ap (λ (l : List ℕ). n % 1000 ∷ l) (zeros_after k (n / 1000) o (div-div-eq-div-mul n 1000 (1000 ^ o) ∙ ap (λ (m : ℕ). n / m) (sym (pow-succ' 1000 o)) ∙ e))

-- so what is stored over zeros is all groups where no more is left of the number
pub stored_all : (xs : List ℕ) (n o : ℕ) → xs ≡ replicate (length xs) 0 → n / 1000 ^ o ≡ 0 → sofar xs (groups_of (length xs) n) o ≡ groups_of (length xs) n
stored_all xs n o z e = ap (λ (l : List ℕ). sofar l (groups_of (length xs) n) o) z ∙ zeros_after (length xs) n o e

-- no digits mean 0
pub value_none : (s : List ℕ) → length s ≡ 0 → value s ≡ 0
value_none [] h = refl
value_none (b ∷ bs) h = absurd (omega arith)

-- the last three digits, and those before them
module _ (s : List ℕ) (d : digits s ≡ true) (l : 3 ≤ length s) where
  abbrev last : List ℕ
  last = get_or s (length s - 3) 0 ∷ get_or s (length s - 2) 0 ∷ get_or s (length s - 1) 0 ∷ []

  pub last_digits : digits last ≡ true
  last_digits = and_both (digits_at s _ d (omega arith)) (and_both (digits_at s _ d (omega arith)) (and_both (digits_at s _ d (omega arith)) refl))

  last_split : value s ≡ value (take (length s - 3) s) * 1000 + value last
  last_split =
      omega (
        arith,
        ap value (take-length s),
        value_turn s (length s - 3) (length s - 2) (omega arith) (omega arith),
        value_turn s (length s - 2) (length s - 1) (omega arith) (omega arith),
        value_turn s (length s - 1) (length s) (omega arith) (omega arith),
      )

  pub last_group : value last ≡ value s % 1000
  last_group = omega (arith, last_split, value_lt last last_digits)

  pub last_rest : value (take (length s - 3) s) ≡ value s / 1000
  last_rest = omega (arith, last_split, value_lt last last_digits)
