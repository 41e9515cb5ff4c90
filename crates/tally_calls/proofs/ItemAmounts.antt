-- Amounts under item numbers: how many have one, and what they come to, before and after one is swapped or left out.
-- Assumes nothing.
use Prim.Native.Nat.{ℕ, zero, suc, ◌+◌, ◌≤◌, ◌<◌}
use mathlib.Core.Path.{◌≡◌, refl, sym, ap, ◌∙◌}
use mathlib.Core.Bool.{Bool, true, false, cond, ◌||◌, true≢false}
use mathlib.Core.List.{List, [], ◌∷◌}
use native.Mathlib.Omega.{arith}
use borrow.Author.Tests.{lt-ltb, eqb-true, eq-eqb, ne_eqb}
use lib.Dec.{eqb, ltb}
use lib.ListN.{length}
use Rattle.tally_calls.specs.History.{Amounts, sum_of, has_item, without_item}

-- what counts under an item number, and what does not
pub if_same : (i n : ℕ) → cond (eqb i i) n 0 ≡ n
if_same i n = rw (eq-eqb i i refl) refl

pub if_other : (i j n : ℕ) → (i ≡ j → ⊥) → cond (eqb i j) n 0 ≡ 0
if_other i j n h = rw (ne_eqb i j h) refl

-- another in the place of the first with an item number
abbrev pub swapped_under : ℕ → ℕ × ℕ → Amounts → Amounts
swapped_under i q [] = []
swapped_under i q (a ∷ l) = cond (eqb a.0 i) (q ∷ l) (a ∷ swapped_under i q l)

-- some measure of each that has an item number, added up, and that of the first of them
module _ (f : ℕ × ℕ → ℕ) where
  abbrev pub total_under : ℕ → Amounts → ℕ
  total_under i [] = 0
  total_under i (a ∷ l) = cond (eqb a.0 i) (f a) 0 + total_under i l

  abbrev pub first_under : ℕ → Amounts → ℕ
  first_under i [] = 0
  first_under i (a ∷ l) = cond (eqb a.0 i) (f a) (first_under i l)

  pub first_total : (i : ℕ) (l : Amounts) → first_under i l ≤ total_under i l
  first_total i [] = omega arith
  first_total i (a ∷ l) = go (eqb a.0 i) (first_total i l)
    where
      go : (b : Bool) → first_under i l ≤ total_under i l → cond b (f a) (first_under i l) ≤ cond b (f a) 0 + total_under i l
      go true h = omega arith
      go false h = omega arith

  pub swap_total : (i : ℕ) (q : ℕ × ℕ) (j : ℕ) (l : Amounts) → has_item i l ≡ true → total_under j (swapped_under i q l) + cond (eqb i j) (first_under i l) 0 ≡ total_under j l + cond (eqb q.0 j) (f q) 0
  swap_total i q j [] h = absurd (true≢false (sym h))
  swap_total i q j (a ∷ l) h = go (eqb a.0 i) refl h (swap_total i q j l)
    where
      go : (b : Bool) → eqb a.0 i ≡ b → (b || has_item i l) ≡ true → (has_item i l ≡ true → total_under j (swapped_under i q l) + cond (eqb i j) (first_under i l) 0 ≡ total_under j l + cond (eqb q.0 j) (f q) 0)
          → total_under j (cond b (q ∷ l) (a ∷ swapped_under i q l)) + cond (eqb i j) (cond b (f a) (first_under i l)) 0 ≡ cond (eqb a.0 j) (f a) 0 + total_under j l + cond (eqb q.0 j) (f q) 0
      go true e g h = rw (sym (eqb-true a.0 i e)) (omega arith)
      go false e g h = omega (arith, h g)

  -- those with an item number left out
  pub out_same : (i : ℕ) (l : Amounts) → total_under i (without_item i l) ≡ 0
  out_same i [] = refl
  out_same i (a ∷ l) = go (eqb a.0 i) refl (out_same i l)
    where
      go : (b : Bool) → eqb a.0 i ≡ b → total_under i (without_item i l) ≡ 0 → total_under i (cond b (without_item i l) (a ∷ without_item i l)) ≡ 0
      go true e h = h
      go false e h = rw e (omega arith)

  pub out_other : (i j : ℕ) → (j ≡ i → ⊥) → (l : Amounts) → total_under j (without_item i l) ≡ total_under j l
  out_other i j n [] = refl
  out_other i j n (a ∷ l) = go (eqb a.0 i) refl (out_other i j n l)
    where
      go : (b : Bool) → eqb a.0 i ≡ b → total_under j (without_item i l) ≡ total_under j l → total_under j (cond b (without_item i l) (a ∷ without_item i l)) ≡ cond (eqb a.0 j) (f a) 0 + total_under j l
      go true e h = rw (ne_eqb a.0 j (λ p. n (sym p ∙ eqb-true a.0 i e))) (omega arith)
      go false e h = omega arith

-- how many have an item number, and the sum of those
abbrev pub times_under : ℕ → Amounts → ℕ
times_under = total_under (λ a. 1)

abbrev pub amount_under : ℕ → Amounts → ℕ
amount_under = total_under (λ a. a.1)

-- an item number is there if it is there once or more often
pub has_times : (i : ℕ) (l : Amounts) → has_item i l ≡ ltb 0 (times_under i l)
has_times i [] = refl
has_times i (a ∷ l) = go (eqb a.0 i) (has_times i l)
  where
    go : (b : Bool) → has_item i l ≡ ltb 0 (times_under i l) → (b || has_item i l) ≡ ltb 0 (cond b 1 0 + times_under i l)
    go true e = sym (lt-ltb 0 (1 + times_under i l) (omega arith))
    go false e = let z : times_under i l ≡ 0 + times_under i l = omega arith in e ∙ ap (ltb 0) z

pub has_first : (i : ℕ) (l : Amounts) → has_item i l ≡ true → first_under (λ a. 1) i l ≡ 1
has_first i [] h = absurd (true≢false (sym h))
has_first i (a ∷ l) h = go (eqb a.0 i) h (has_first i l)
  where
    go : (b : Bool) → (b || has_item i l) ≡ true → (has_item i l ≡ true → first_under (λ a. 1) i l ≡ 1) → cond b 1 (first_under (λ a. 1) i l) ≡ 1
    go true g f = refl
    go false g f = f g

-- where there is one at most, the first is all
pub once_first : (i : ℕ) (l : Amounts) → times_under i l ≤ 1 → first_under (λ a. a.1) i l ≡ amount_under i l
once_first i [] h = refl
once_first i (a ∷ l) h = go (eqb a.0 i) h (once_first i l) (none i l)
  where
    none : (i : ℕ) (l : Amounts) → times_under i l ≡ 0 → amount_under i l ≡ 0
    none i [] h = refl
    none i (a ∷ l) h = more (eqb a.0 i) h (none i l)
      where
        more : (b : Bool) → cond b 1 0 + times_under i l ≡ 0 → (times_under i l ≡ 0 → amount_under i l ≡ 0) → cond b a.1 0 + amount_under i l ≡ 0
        more true e f = absurd (omega arith)
        more false e f = omega (arith, f (omega arith))

    go : (b : Bool) → cond b 1 0 + times_under i l ≤ 1 → (times_under i l ≤ 1 → first_under (λ a. a.1) i l ≡ amount_under i l) → (times_under i l ≡ 0 → amount_under i l ≡ 0) → cond b a.1 (first_under (λ a. a.1) i l) ≡ cond b a.1 0 + amount_under i l
    go true e f n = omega (arith, n (omega arith))
    go false e f n = omega (arith, f (omega arith))

-- sums and lengths
pub swap_sum : (i : ℕ) (q : ℕ × ℕ) (l : Amounts) → has_item i l ≡ true → sum_of (swapped_under i q l) + first_under (λ a. a.1) i l ≡ sum_of l + q.1
swap_sum i q [] h = absurd (true≢false (sym h))
swap_sum i q (a ∷ l) h = go (eqb a.0 i) h (swap_sum i q l)
  where
    go : (b : Bool) → (b || has_item i l) ≡ true → (has_item i l ≡ true → sum_of (swapped_under i q l) + first_under (λ a. a.1) i l ≡ sum_of l + q.1)
        → sum_of (cond b (q ∷ l) (a ∷ swapped_under i q l)) + cond b a.1 (first_under (λ a. a.1) i l) ≡ a.1 + sum_of l + q.1
    go true g f = omega arith
    go false g f = omega (arith, f g)

pub out_sum : (i : ℕ) (l : Amounts) → sum_of (without_item i l) + amount_under i l ≡ sum_of l
out_sum i [] = refl
out_sum i (a ∷ l) = go (eqb a.0 i) (out_sum i l)
  where
    go : (b : Bool) → sum_of (without_item i l) + amount_under i l ≡ sum_of l → sum_of (cond b (without_item i l) (a ∷ without_item i l)) + (cond b a.1 0 + amount_under i l) ≡ a.1 + sum_of l
    go true h = omega arith
    go false h = omega arith

pub out_length : (i : ℕ) (l : Amounts) → length (without_item i l) + times_under i l ≡ length l
out_length i [] = refl
out_length i (a ∷ l) = go (eqb a.0 i) (out_length i l)
  where
    go : (b : Bool) → length (without_item i l) + times_under i l ≡ length l → length (cond b (without_item i l) (a ∷ without_item i l)) + (cond b 1 0 + times_under i l) ≡ suc (length l)
    go true h = omega arith
    go false h = omega arith
