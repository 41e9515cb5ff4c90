-- An ordinal of the number that an array of groups stands for: its lowest group that is not 0, and the number above it.
-- Assumes nothing.
use Prim.Native.Nat.{ℕ, zero, suc, ◌+◌, ◌-◌, ◌*◌, ◌/◌, ◌%◌, ◌^◌, ◌<◌, ◌≤◌}
use mathlib.Core.Path.{◌≡◌, refl, sym, ap, ◌∙◌}
use mathlib.Core.Bool.{not, ◌&&◌}
use mathlib.Core.List.{List, [], ◌∷◌, ◌++◌}
use native.Mathlib.Nat.{pow-succ', div-div-eq-div-mul}
use native.Mathlib.Omega.{arith}
use native.Mathlib.Decide.{ℕ_discrete, dec_lt}
use borrow.Author.Tests.{eq-eqb, ne_eqb}
use lib.Dec.{eqb}
use lib.ListN.{length, get_or, set, length-set}
use lib.Seq.{set_out, get_or-set_same, get_or-set_other}
use Rattle.base.specs.Join.{Word}
use Rattle.base.specs.Utf8.{utf8}
use Rattle.settings.specs.Settings.{Settings}
use Rattle.figures.specs.Groups.{total, Groups}
use Rattle.figures.proofs.Laws.Groups.{group_of_lem}
use Rattle.groups.specs.Highest.{ZeroFrom, Highest}
use Rattle.groups.proofs.Highest.{total_none, none_total}
use Rattle.cardinals.specs.Lexicon.{Lexicon}
use Rattle.cardinals.specs.Cardinal.{group_at, groups_below}
use Rattle.cardinals.specs.Listed.{listed}
use Rattle.cardinals.proofs.Arrays.{listed_is}
use Rattle.uk.specs.Ukrainian.{ukrainian}
use Rattle.uk_ordinal.specs.OrdinalTables.{ordinal_zero_base}
use Rattle.uk_ordinal.specs.Ordinal.{soft, flexion, in_nominative, lowest_words, above, ordinal_at, ordinal_from, ordinal_words}

set_each : (gs : List ℕ) (k : ℕ) → Groups gs → Groups (set gs k 0)
set_each [] k h = tt
set_each (g ∷ gs) zero h = (omega arith, h.1)
set_each (g ∷ gs) (suc k) h = (h.0, set_each gs k h.1)

-- groups above which all are 0 stay so where one becomes 0
pub zeros_set : (gs : List ℕ) (n k : ℕ) → ZeroFrom gs n → ZeroFrom (set gs k 0) n
zeros_set gs n k z i h = go (ℕ_discrete i k) (dec_lt k (length gs))
  where
    go : Dec (i ≡ k) → Dec (k < length gs) → get_or (set gs k 0) i 0 ≡ 0
    go (yes e) (yes l) = rw e (get_or-set_same gs k 0 0 l)
    go d (no l) = rw (set_out gs k 0 (omega arith)) (z i h)
    go (no e) (yes l) = get_or-set_other gs k i 0 0 e ∙ z i h

-- a number's last two digits stand in its group at order 0
soft_first : (gs : List ℕ) → soft (get_or gs 0 0) ≡ soft (total gs)
soft_first [] = refl
soft_first (g ∷ gs) =
    let a : g % 10 ≡ (g + 1000 * total gs) % 10 = omega arith in
    let b : g % 100 ≡ (g + 1000 * total gs) % 100 = omega arith in
    ap (λ (x : ℕ). eqb x 3 && not (eqb (g % 100) 13)) a ∙ ap (λ (x : ℕ). eqb ((g + 1000 * total gs) % 10) 3 && not (eqb x 13)) b

-- a number whose groups below an order are 0, without the group there: the number above it
shifted : (p t : ℕ) → 1000 * t / (1000 * p) * (1000 * p) ≡ 0 + 1000 * (t / p * p)
shifted p t =
    let a : 1000 * t / (1000 * p) ≡ t / p = sym (div-div-eq-div-mul (1000 * t) 1000 p) ∙ ap (λ (x : ℕ). x / p) (let e : 1000 * t / 1000 ≡ t = omega arith in e) in
    rw a (omega arith)

total_above : (gs : List ℕ) (k : ℕ) → Groups gs → k < length gs → ((i : ℕ) → i < k → get_or gs i 0 ≡ 0) → total (set gs k 0) ≡ above k (total gs)
total_above [] k h l z = absurd (omega arith)
total_above (g ∷ gs) zero h l z = let s : g < 1000 = h.0 in omega arith
total_above (g ∷ gs) (suc k) h l z =
    let e : g + 1000 * total gs ≡ 1000 * total gs = omega (arith, z 0 (omega arith)) in
    rw (e, z 0 (omega arith), total_above gs k h.1 (omega arith) (λ i j. z (suc i) (omega arith)), pow-succ' 1000 (suc k))
    (sym (shifted (1000 ^ suc k) (total gs)))

-- the lowest of groups that is not 0 is at the order k
abbrev pub Lowest : List ℕ → ℕ → Type 0
Lowest gs k = (k < 22) × ((i : ℕ) → i < k → get_or gs i 0 ≡ 0) × (get_or gs k 0 ≡ 0 → ⊥)

-- 22 groups of at most three digits
module _ (gs : List ℕ) (size : length gs ≡ 22) (groups : Groups gs) where
  group_is : (i : ℕ) → i < 22 → group_at i (total gs) ≡ get_or gs i 0
  group_is i h = sym (group_of_lem gs i groups (omega (arith, size)))

  -- the words of the number, with the ending e
  module _ (S : Settings) (e : Word) (ends : e ≡ flexion S (soft (get_or gs 0 0))) where
    words_are : ordinal_from S e 22 0 (total gs) ≡ ordinal_words S (total gs)
    unfolding ordinal_words
    words_are = ap (λ (w : Word). ordinal_from S w 22 0 (total gs)) (ends ∙ ap (flexion S) (soft_first gs))

    -- of which none is other than 0
    module _ (none : (i : ℕ) → get_or gs i 0 ≡ 0) where
      from_none : (left order : ℕ) → order + left ≡ 22 → ordinal_from S e left order (total gs) ≡ (utf8 ordinal_zero_base ++ e) ∷ []
      unfolding ordinal_from
      from_none zero order a = refl
      from_none (suc left) order a = rw (group_is order (omega arith), none order) (from_none left (suc order) (omega arith))

      pub ordinal_zero : (utf8 ordinal_zero_base ++ e) ∷ [] ≡ ordinal_words S (total gs)
      ordinal_zero = sym (from_none 22 0 (omega arith)) ∙ words_are

  -- of which the lowest that is not 0 is at the order k
  module _ (k : ℕ) (low : Lowest gs k) where
    -- the number above it
    above_is : total (set gs k 0) ≡ above k (total gs)
    above_is = total_above gs k groups (omega (arith, size)) low.1

    higher_is : (L : Lexicon) → listed L 22 (set gs k 0) ≡ groups_below L 22 (above k (total gs))
    higher_is L = listed_is L (set gs k 0) 22 (set_each gs k groups) (omega (arith, size, length-set gs k 0)) ∙ ap (groups_below L 22) above_is

    -- it is alone just where the orders end with it
    module _ (n : ℕ) (top : Highest gs n) where
      above_none : k + 1 ≡ n → ZeroFrom (set gs k 0) 0
      above_none e i l = go (ℕ_discrete i k) (dec_lt i k)
        where
          go : Dec (i ≡ k) → Dec (i < k) → get_or (set gs k 0) i 0 ≡ 0
          go (yes q) d = rw q (get_or-set_same gs k 0 0 (omega (arith, size)))
          go (no q) (yes b) = get_or-set_other gs k i 0 0 q ∙ low.1 i b
          go (no q) (no b) = get_or-set_other gs k i 0 0 q ∙ top.zeros i (omega arith)

      pub lone : eqb (k + 1) n ≡ eqb (above k (total gs)) 0
      lone = go (ℕ_discrete (k + 1) n) (inside (dec_lt k n))
        where
          inside : Dec (k < n) → k < n
          inside (yes l) = l
          inside (no l) = absurd (low.2 (top.zeros k (omega arith)))

          high : above k (total gs) ≡ 0 → (k + 1 ≡ n → ⊥) → k < n → get_or gs (n - 1) 0 ≡ 0
          high z e l = sym (get_or-set_other gs k (n - 1) 0 0 (λ q. e (omega arith))) ∙ none_total (set gs k 0) (above_is ∙ z) (n - 1) (omega arith)

          go : Dec (k + 1 ≡ n) → k < n → eqb (k + 1) n ≡ eqb (above k (total gs)) 0
          go (yes e) l = eq-eqb (k + 1) n e ∙ sym (eq-eqb (above k (total gs)) 0 (sym above_is ∙ total_none (set gs k 0) (above_none e)))
          go (no e) l = ne_eqb (k + 1) n e ∙ sym (ne_eqb (above k (total gs)) 0 (λ z. top.some (omega arith) (high z e l)))

    -- the words of the number, with the ending e
    module _ (S : Settings) (e : Word) (ends : e ≡ flexion S (soft (get_or gs 0 0))) where
      -- from an order up to the lowest
      from_up : (left order : ℕ) → order + left ≡ 22 → order ≤ k → ordinal_from S e left order (total gs) ≡ ordinal_at S e k (total gs)
      unfolding ordinal_from
      from_up zero order a b = absurd (omega (arith, low.0))
      from_up (suc left) order a b = go (ℕ_discrete order k) (λ l. from_up left (suc order) (omega arith) l)
        where
          go : Dec (order ≡ k) → (suc order ≤ k → ordinal_from S e left (suc order) (total gs) ≡ ordinal_at S e k (total gs))
              → ordinal_from S e (suc left) order (total gs) ≡ ordinal_at S e k (total gs)
          go (yes q) up = rw (q, group_is k low.0, ne_eqb (get_or gs k 0) 0 low.2) refl
          go (no q) up = rw (group_is order (omega arith), low.1 order (omega arith)) (up (omega arith))

      pub ordinal_higher : listed (ukrainian (in_nominative S)) 22 (set gs k 0) ++ lowest_words S e (above k (total gs)) k (get_or gs k 0) ≡ ordinal_words S (total gs)
      unfolding ordinal_at
      ordinal_higher = rw (higher_is (ukrainian (in_nominative S)), ← group_is k low.0) (sym (from_up 22 0 (omega arith) (omega arith))) ∙ words_are S e ends
