-- The calls on a tally that agrees with what a list of calls leaves: their replies are those that the list gives.
-- Assumes nothing.
use Prim.Native.Nat.{ℕ, zero, suc, ◌+◌, ◌≤◌, ◌<◌}
use mathlib.Core.Path.{◌≡◌, refl, sym, ap, ◌∙◌}
use mathlib.Core.Bool.{Bool, true, false, cond, not, ◌&&◌, ◌||◌, true≢false}
use mathlib.Core.List.{List, [], ◌∷◌, ◌++◌}
use native.Mathlib.Decide.{dec_lt}
use native.Mathlib.Omega.{arith}
use borrow.Author.Tests.{lt-ltb, le-ltb, ne_eqb}
use lib.Dec.{eqb, ltb}
use lib.ListN.{length}
use Rattle.base.specs.Answer.{first_of, Spelling, Reply, refused, bytes, fitted, unless, replied}
use Rattle.settings.specs.Settings.{ukrainian_ranges}
use Rattle.settings.specs.Settings.{Settings}
use Rattle.settings.proofs.Ranges.{unrefused}
use Rattle.figures.specs.Money.{whole_of, money_formed, money_limit}
use Rattle.figures.specs.Text.{negative}
use Rattle.figures.specs.Refusals.{amount_refusals, Admitted}
use Rattle.uk_money.specs.Currencies.{Currency}
use Rattle.tally.specs.Tally.{last_item, Tally, sum_in, is_under}
use Rattle.tally_calls.specs.TallyCalls.{passes_limit, is_full, with_amount, is_held, without_amount, add_report, remove_report}
use Rattle.tally_calls.specs.History.{sum_of, has_item, without_item, Sheet, with_next, is_sheet_full}
use Rattle.tally_calls.proofs.ItemAmounts.{times_under, has_times}
use Rattle.tally_calls.proofs.Agreement.{pairs, pairs_sum, pairs_has, Agrees, sum_added, sum_removed}

-- what a call that is not refused has passed
added_passed : (a b d e f : Bool) → first_of ((a, 3) ∷ (b, 4) ∷ (d, 5) ∷ (e, 8) ∷ (f, 9) ∷ []) ≡ 0 → (first_of ((a, 3) ∷ (b, 4) ∷ (d, 5) ∷ []) ≡ 0) × (e ≡ false) × (f ≡ false)
added_passed true b d e f z = absurd (omega arith)
added_passed false true d e f z = absurd (omega arith)
added_passed false false true e f z = absurd (omega arith)
added_passed false false false true f z = absurd (omega arith)
added_passed false false false false true z = absurd (omega arith)
added_passed false false false false false z = (refl, refl, refl)

pub add_passed : (S : Settings) (c : Currency) (full : Bool) (given sum : ℕ) (t : List ℕ) → (add_report S c full given sum t).spelling.refusal ≡ 0 → Admitted (amount_refusals t) × (full ≡ false) × (passes_limit sum ≡ false)
add_passed S c full given sum t z = added_passed (not (money_formed t)) (negative t) (ltb money_limit (whole_of t)) full (passes_limit sum) (unrefused {rs = ukrainian_ranges S} {cs = amount_refusals t ++ ((full, 8) ∷ (passes_limit sum, 9) ∷ [])} z).others

pub remove_passed : (S : Settings) (c : Currency) (held : Bool) (sum : ℕ) → (remove_report S c held sum).spelling.refusal ≡ 0 → held ≡ true
remove_passed S c held sum z = go held (unrefused {rs = ukrainian_ranges S} {cs = (not held, 10) ∷ (passes_limit sum, 9) ∷ []} z).others
  where
    go : (b : Bool) → first_of ((not b, 10) ∷ (passes_limit sum, 9) ∷ []) ≡ 0 → b ≡ true
    go true z = refl
    go false z = absurd (omega arith)

-- a reply of bytes refuses nothing
pub unrefused_bytes : (X : Spelling) (xs b : List ℕ) → replied X xs ≡ bytes b → X.refusal ≡ 0
unrefused_bytes X xs b e = go X.refusal e
  where
    go : (n : ℕ) → unless n (fitted xs X.phrase) ≡ bytes b → n ≡ 0
    go zero e = refl
    go (suc n) e = absurd (let z : ◌≡◌ {A = ℕ} 0 1 = cc in omega arith)

-- the same refusal, and behind it, where there is none, the same phrase
same_reply : (X Y : Spelling) (xs : List ℕ) → X.refusal ≡ Y.refusal → (X.refusal ≡ 0 → X.phrase ≡ Y.phrase) → replied X xs ≡ replied Y xs
same_reply X Y xs e f = go X.refusal f ∙ ap (λ (n : ℕ). unless n (fitted xs Y.phrase)) e
  where
    go : (n : ℕ) → (n ≡ 0 → X.phrase ≡ Y.phrase) → unless n (fitted xs X.phrase) ≡ unless n (fitted xs Y.phrase)
    go zero f = ap (fitted xs) (f refl)
    go (suc n) f = refl

-- a tally that is not full has a free place and an item number left
pub not_full : (T : Tally) → is_full T ≡ false → (is_under 0 T.places ≡ true) × (eqb T.given last_item ≡ false)
not_full T e = go (is_under 0 T.places) (eqb T.given last_item) e
  where
    go : (a b : Bool) → (not a || b) ≡ false → (a ≡ true) × (b ≡ false)
    go true b e = (refl, e)
    go false b e = absurd (true≢false e)

-- an item number under which an amount is held is not 0, and a place has it
pub held_there : (i : ℕ) (T : Tally) → is_held i T ≡ true → (0 < i) × (is_under i T.places ≡ true)
held_there zero T e = absurd (true≢false (sym e))
held_there (suc i) T e = (omega arith, rw (ne_eqb (suc i) 0 (λ z. omega arith)) at e)

-- of 64, some are left where the others are fewer
left : (n m : ℕ) → n + m ≡ 64 → ltb 0 n ≡ ltb m 64
left n m e = go (dec_lt 0 n)
  where
    go : Dec (0 < n) → ltb 0 n ≡ ltb m 64
    go (yes h) = lt-ltb 0 n h ∙ sym (lt-ltb m 64 (omega arith))
    go (no h) = le-ltb 0 n (omega arith) ∙ sym (le-ltb m 64 (omega arith))

module _ {c : Currency} {s : Sheet} {T : Tally} (A : Agrees c s T) where
  -- the tally is full where the list says so
  pub full_same : is_full T ≡ is_sheet_full s
  full_same =
      let e : is_under 0 T.places ≡ ltb (length s.amounts) 64 = sym (pairs_has 0 T.places) ∙ has_times 0 (pairs T.places) ∙ left (times_under 0 (pairs T.places)) (length s.amounts) A.free_count in
      rw (e, A.given_is) refl

  -- an amount is held where the list says so
  pub held_same : (i : ℕ) → is_held i T ≡ has_item i s.amounts
  held_same zero = sym (has_times 0 s.amounts ∙ ap (ltb 0) A.no_zero)
  held_same (suc i) =
      ap (λ (b : Bool). not b && is_under (suc i) T.places) (ne_eqb (suc i) 0 (λ z. omega arith))
      ∙ sym (pairs_has (suc i) T.places) ∙ has_times (suc i) (pairs T.places) ∙ ap (ltb 0) (A.times_agree (suc i) (omega arith)) ∙ sym (has_times (suc i) s.amounts)

  module _ (S : Settings) (xs : List ℕ) where
    pub add_same : (t : List ℕ) → replied (add_report S T.currency (is_full T) T.given (sum_in (with_amount T t).places) t).spelling xs ≡ replied (add_report S c (is_sheet_full s) s.given (sum_of (with_next s t)) t).spelling xs
    add_same t = go (is_full T) refl ∙ ap (λ (b : Bool). replied (add_report S c b s.given n t).spelling xs) full_same
      where
        m : ℕ
        m = sum_in (with_amount T t).places

        n : ℕ
        n = sum_of (with_next s t)

        go : (b : Bool) → is_full T ≡ b → replied (add_report S T.currency b T.given m t).spelling xs ≡ replied (add_report S c b s.given n t).spelling xs
        go true e = same_reply (add_report S T.currency true T.given m t).spelling (add_report S c true s.given n t).spelling xs refl (λ z. absurd (true≢false (add_passed S T.currency true T.given m t z).1))
        go false e =
            let k : m ≡ n = sym (pairs_sum (with_amount T t).places) ∙ sum_added A t (not_full T e).0 in
            rw (k, A.currency_is) refl

    pub remove_same : (i : ℕ) → replied (remove_report S T.currency (is_held i T) (sum_in (without_amount T i).places)).spelling xs ≡ replied (remove_report S c (has_item i s.amounts) (sum_of (without_item i s.amounts))).spelling xs
    remove_same i = go (is_held i T) refl ∙ ap (λ (b : Bool). replied (remove_report S c b n).spelling xs) (held_same i)
      where
        m : ℕ
        m = sum_in (without_amount T i).places

        n : ℕ
        n = sum_of (without_item i s.amounts)

        go : (b : Bool) → is_held i T ≡ b → replied (remove_report S T.currency b m).spelling xs ≡ replied (remove_report S c b n).spelling xs
        go false e = same_reply (remove_report S T.currency false m).spelling (remove_report S c false n).spelling xs refl (λ z. absurd (true≢false (sym (remove_passed S T.currency false m z))))
        go true e =
            let h = held_there i T e in
            let k : m ≡ n = sym (pairs_sum (without_amount T i).places) ∙ sum_removed A i h.0 h.1 in
            rw (k, A.currency_is) refl
