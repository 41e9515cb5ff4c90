-- A tally that calls made agrees with what the list of calls leaves: the same amounts under the same item numbers, in places.
-- Assumes nothing.
use Prim.Native.Nat.{ℕ, zero, suc, ◌+◌, ◌-◌, ◌*◌, ◌^◌, ◌≤◌, ◌<◌}
use mathlib.Core.Path.{◌≡◌, refl, sym, ap, ◌∙◌}
use mathlib.Core.Bool.{Bool, true, false, cond, not, ◌&&◌, ◌||◌, true≢false}
use mathlib.Core.List.{List, [], ◌∷◌}
use native.Mathlib.Decide.{ℕ_discrete}
use native.Mathlib.Omega.{arith}
use borrow.Author.Tests.{ltb-true}
use lib.Dec.{eqb, ltb}
use lib.ListN.{length, replicate}
use Rattle.figures.specs.Money.{whole_of, hundredths_of, money_limit}
use Rattle.uk_money.specs.Currencies.{Currency}
use Rattle.tally.specs.Tally.{most_amounts, last_item, free_place, Tally, empty_tally, in_hundredths, sum_in, is_under, exchanged}
use Rattle.tally.specs.declared.Place.{Place}
use Rattle.tally.proofs.Laid.{Ranged}
use Rattle.tally_calls.specs.TallyCalls.{is_full, next_place, with_amount, is_held, without_amount}
use Rattle.tally_calls.specs.History.{Amounts, sum_of, has_item, without_item, Sheet, with_next, is_sheet_full}
use Rattle.tally_calls.proofs.ItemAmounts.{if_same, if_other, swapped_under, total_under, first_under, first_total, swap_total, out_same, out_other, times_under, amount_under, has_times, has_first, once_first, swap_sum, out_sum, out_length}

-- the amounts of places, each after its item number
abbrev pub item_and_amount : Place → ℕ × ℕ
item_and_amount p = (p.item, in_hundredths p.whole p.hundredths)

abbrev pub pairs : List Place → Amounts
pairs [] = []
pairs (p ∷ ps) = item_and_amount p ∷ pairs ps

pub pairs_sum : (ps : List Place) → sum_of (pairs ps) ≡ sum_in ps
pairs_sum [] = refl
pairs_sum (p ∷ ps) = ap (λ (n : ℕ). in_hundredths p.whole p.hundredths + n) (pairs_sum ps)

pub pairs_has : (i : ℕ) (ps : List Place) → has_item i (pairs ps) ≡ is_under i ps
pairs_has i [] = refl
pairs_has i (p ∷ ps) = ap (λ (b : Bool). eqb p.item i || b) (pairs_has i ps)

pub pairs_swapped : (i : ℕ) (q : Place) (ps : List Place) → pairs (exchanged i q ps) ≡ swapped_under i (item_and_amount q) (pairs ps)
pairs_swapped i q [] = refl
pairs_swapped i q (p ∷ ps) = go (eqb p.item i) (pairs_swapped i q ps)
  where
    go : (b : Bool) → pairs (exchanged i q ps) ≡ swapped_under i (item_and_amount q) (pairs ps) → pairs (cond b (q ∷ ps) (p ∷ exchanged i q ps)) ≡ cond b (item_and_amount q ∷ pairs ps) (item_and_amount p ∷ swapped_under i (item_and_amount q) (pairs ps))
    go true e = refl
    go false e = ap (λ (l : Amounts). item_and_amount p ∷ l) e

-- exchanged places are in their ranges, and as many
exchanged_ranged : (i : ℕ) (q : Place) → Ranged (q ∷ []) → (ps : List Place) → Ranged ps → Ranged (exchanged i q ps)
exchanged_ranged i q h [] r = tt
exchanged_ranged i q h (p ∷ ps) r = go (eqb p.item i) (exchanged_ranged i q h ps r.3)
  where
    go : (b : Bool) → Ranged (exchanged i q ps) → Ranged (cond b (q ∷ ps) (p ∷ exchanged i q ps))
    go true e = (h.0, h.1, h.2, r.3)
    go false e = (r.0, r.1, r.2, e)

exchanged_length : (i : ℕ) (q : Place) (ps : List Place) → length (exchanged i q ps) ≡ length ps
exchanged_length i q [] = refl
exchanged_length i q (p ∷ ps) = go (eqb p.item i) (exchanged_length i q ps)
  where
    go : (b : Bool) → length (exchanged i q ps) ≡ length ps → length (cond b (q ∷ ps) (p ∷ exchanged i q ps)) ≡ suc (length ps)
    go true e = refl
    go false e = ap suc e

-- free places have no amount, and with the amounts held they are 64; above 0 each item number stands as often in a place as in the list, once at most, and
-- with the same amount
pub record Agrees (c : Currency) (s : Sheet) (T : Tally) : Type 0 where
  pub currency_is : T.currency ≡ c
  pub given_is : T.given ≡ s.given
  pub given_below : s.given ≤ last_item
  pub size : length T.places ≡ most_amounts
  pub ranged : Ranged T.places
  pub free_empty : amount_under 0 (pairs T.places) ≡ 0
  pub free_count : times_under 0 (pairs T.places) + length s.amounts ≡ most_amounts
  pub times_agree : (i : ℕ) → 0 < i → times_under i (pairs T.places) ≡ times_under i s.amounts
  pub amounts_agree : (i : ℕ) → 0 < i → amount_under i (pairs T.places) ≡ amount_under i s.amounts
  pub sum_is : sum_of (pairs T.places) ≡ sum_of s.amounts
  pub once : (i : ℕ) → times_under i s.amounts ≤ 1
  pub no_zero : times_under 0 s.amounts ≡ 0
  pub none_later : (i : ℕ) → s.given < i → times_under i s.amounts ≡ 0

-- an empty tally
free_ranged : (k : ℕ) → Ranged (replicate k free_place)
free_ranged zero = tt
free_ranged (suc k) = (omega arith, omega arith, omega arith, free_ranged k)

free_total : (f : ℕ × ℕ → ℕ) (i k : ℕ) → total_under f (suc i) (pairs (replicate k free_place)) ≡ 0
free_total f i zero = refl
free_total f i (suc k) = omega (arith, free_total f i k, if_other 0 (suc i) (f (0, 0)) (λ e. omega arith))

pub agrees_empty : (c : Currency) → Agrees c (record { given = 0; amounts = [] }) (empty_tally c)
agrees_empty c = record {
  currency_is = refl;
  given_is = refl;
  given_below = omega arith;
  size = refl;
  ranged = free_ranged 64;
  free_empty = refl;
  free_count = refl;
  times_agree = λ i h. none (λ a. 1) i h;
  amounts_agree = λ i h. none (λ a. a.1) i h;
  sum_is = refl;
  once = λ i. omega arith;
  no_zero = refl;
  none_later = λ i h. refl;
}
  where
    none : (f : ℕ × ℕ → ℕ) (i : ℕ) → 0 < i → total_under f i (pairs (replicate 64 free_place)) ≡ 0
    none f zero h = absurd (omega arith)
    none f (suc i) h = free_total f i 64

module _ {c : Currency} {s : Sheet} {T : Tally} (A : Agrees c s T) where
  abbrev P : Amounts
  P = pairs T.places

  -- a text's amount in a free place
  module _ (t : List ℕ) (room : is_under 0 T.places ≡ true) where
    abbrev q : ℕ × ℕ
    q = item_and_amount (next_place T t)

    has : has_item 0 P ≡ true
    has = pairs_has 0 T.places ∙ room

    to : pairs (with_amount T t).places ≡ swapped_under 0 q P
    to = pairs_swapped 0 (next_place T t) T.places

    total_added : (f : ℕ × ℕ → ℕ) (j : ℕ) → 0 < j → total_under f j P ≡ total_under f j s.amounts → total_under f j (swapped_under 0 q P) ≡ cond (eqb (suc s.given) j) (f (suc s.given, q.1)) 0 + total_under f j s.amounts
    total_added f j l e = rw (sym A.given_is) (omega (arith, swap_total f 0 q j P has, e, if_other 0 j (first_under f 0 P) (λ z. omega arith)))

    none_zero : (f : ℕ × ℕ → ℕ) → cond (eqb (suc T.given) 0) (f q) 0 ≡ 0
    none_zero f = if_other (suc T.given) 0 (f q) (λ e. omega arith)

    pub sum_added : sum_of (pairs (with_amount T t).places) ≡ sum_of (with_next s t)
    sum_added = rw to (omega (arith, swap_sum 0 q P has, first_total (λ a. a.1) 0 P, A.free_empty, A.sum_is))

    pub agrees_added : whole_of t < 256 ^ 8 → hundredths_of t < 256 → s.given < last_item → Agrees c (record { given = suc s.given; amounts = with_next s t }) (with_amount T t)
    agrees_added w h more = record {
      currency_is = A.currency_is;
      given_is = ap suc A.given_is;
      given_below = omega arith;
      size = exchanged_length 0 (next_place T t) T.places ∙ A.size;
      ranged = exchanged_ranged 0 (next_place T t) (omega (arith, A.given_is), w, h, tt) T.places A.ranged;
      free_empty = rw to (omega (arith, swap_total (λ a. a.1) 0 q 0 P has, first_total (λ a. a.1) 0 P, A.free_empty, none_zero (λ a. a.1)));
      free_count = rw to (omega (arith, swap_total (λ a. 1) 0 q 0 P has, has_first 0 P has, A.free_count, none_zero (λ a. 1), if_same 0 (first_under (λ a. 1) 0 P)));
      times_agree = λ i l. rw to (total_added (λ a. 1) i l (A.times_agree i l));
      amounts_agree = λ i l. rw to (total_added (λ a. a.1) i l (A.amounts_agree i l));
      sum_is = sum_added;
      once = λ i. once_more i (ℕ_discrete (suc s.given) i);
      no_zero = omega (arith, A.no_zero, if_other (suc s.given) 0 1 (λ e. omega arith));
      none_later = λ i l. omega (arith, A.none_later i (omega arith), if_other (suc s.given) i 1 (λ e. omega arith));
    }
      where
        once_more : (i : ℕ) → Dec (suc s.given ≡ i) → times_under i (with_next s t) ≤ 1
        once_more i (yes e) = let k = ap (λ (n : ℕ). cond {A = ℕ} (eqb n i) 1 0) e ∙ if_same i 1 in omega (arith, A.none_later i (omega arith), k)
        once_more i (no n) = omega (arith, A.once i, if_other (suc s.given) i 1 n)

  -- a place free again
  module _ (i : ℕ) (some : 0 < i) (there : is_under i T.places ≡ true) where
    held : has_item i P ≡ true
    held = pairs_has i T.places ∙ there

    from : pairs (without_amount T i).places ≡ swapped_under i (item_and_amount free_place) P
    from = pairs_swapped i free_place T.places

    few : times_under i P ≤ 1
    few = omega (arith, A.times_agree i some, A.once i)

    -- there is one, and the first is all that stands under the item number
    one_there : times_under i P ≡ 1
    one_there = omega (arith, ltb-true 0 (times_under i P) (sym (has_times i P) ∙ held), few)

    all_there : first_under (λ a. a.1) i P ≡ amount_under i P
    all_there = once_first i P few

    total_removed : (f : ℕ × ℕ → ℕ) → first_under f i P ≡ total_under f i P → (j : ℕ) → 0 < j → total_under f j P ≡ total_under f j s.amounts
        → total_under f j (swapped_under i (item_and_amount free_place) P) ≡ total_under f j (without_item i s.amounts)
    total_removed f a j l e = go (ℕ_discrete j i)
      where
        go : Dec (j ≡ i) → total_under f j (swapped_under i (item_and_amount free_place) P) ≡ total_under f j (without_item i s.amounts)
        go (yes k) = rw k (omega (arith, swap_total f i (item_and_amount free_place) i P held, if_same i (first_under f i P), if_other 0 i (f (item_and_amount free_place)) (λ z. omega arith), a, out_same f i s.amounts))
        go (no n) = omega (arith, swap_total f i (item_and_amount free_place) j P held, if_other i j (first_under f i P) (λ z. n (sym z)), if_other 0 j (f (item_and_amount free_place)) (λ z. omega arith), e, out_other f i j n s.amounts)

    pub sum_removed : sum_of (pairs (without_amount T i).places) ≡ sum_of (without_item i s.amounts)
    sum_removed = rw from (omega (arith, swap_sum i (item_and_amount free_place) P held, all_there, A.amounts_agree i some, out_sum i s.amounts, A.sum_is))

    pub agrees_removed : Agrees c (record { given = s.given; amounts = without_item i s.amounts }) (without_amount T i)
    agrees_removed = record {
      currency_is = A.currency_is;
      given_is = A.given_is;
      given_below = A.given_below;
      size = exchanged_length i free_place T.places ∙ A.size;
      ranged = exchanged_ranged i free_place (omega arith, omega arith, omega arith, tt) T.places A.ranged;
      free_empty = rw from (omega (arith, swap_total (λ a. a.1) i (item_and_amount free_place) 0 P held, A.free_empty, if_same 0 0));
      free_count = rw from (omega (arith, swap_total (λ a. 1) i (item_and_amount free_place) 0 P held, A.free_count, if_same 0 1, if_other i 0 (first_under (λ a. 1) i P) (λ e. omega arith), out_length i s.amounts, one_there, A.times_agree i some));
      times_agree = λ j l. rw from (total_removed (λ a. 1) (has_first i P held ∙ sym one_there) j l (A.times_agree j l));
      amounts_agree = λ j l. rw from (total_removed (λ a. a.1) all_there j l (A.amounts_agree j l));
      sum_is = sum_removed;
      once = λ j. fewer j (ℕ_discrete j i);
      no_zero = out_other (λ a. 1) i 0 (λ e. omega arith) s.amounts ∙ A.no_zero;
      none_later = λ j l. less j (A.none_later j l) (ℕ_discrete j i);
    }
      where
        less : (j : ℕ) → times_under j s.amounts ≡ 0 → Dec (j ≡ i) → times_under j (without_item i s.amounts) ≡ 0
        less j z (yes e) = rw e (out_same (λ a. 1) i s.amounts)
        less j z (no n) = out_other (λ a. 1) i j n s.amounts ∙ z

        fewer : (j : ℕ) → Dec (j ≡ i) → times_under j (without_item i s.amounts) ≤ 1
        fewer j (yes e) = rw e (omega (arith, out_same (λ a. 1) i s.amounts))
        fewer j (no n) = omega (arith, out_other (λ a. 1) i j n s.amounts, A.once j)
