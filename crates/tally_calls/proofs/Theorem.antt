-- Lists of calls on a tally (02, W4): the total and every answer are those computed from the list alone, and no item number is given twice.
-- Assumes nothing.
use Prim.Native.Nat.{ℕ, zero, suc, ◌/◌, ◌^◌, ◌≤◌, ◌<◌}
use mathlib.Core.Path.{◌≡◌, refl, sym, ap, ◌∙◌, subst}
use mathlib.Core.Bool.{Bool, true, false, cond}
use mathlib.Core.List.{List, [], ◌∷◌, ◌++◌}
use mathlib.Core.Option.{Option, some}
use native.Mathlib.Omega.{arith}
use borrow.Author.Tests.{eqb-false, ltb-false, le-ltb}
use lib.Dec.{eqb, ltb}
use lib.ListN.{length, drop}
use Rattle.base.specs.Answer.{no_room, Spelling, Reply, refused, bytes, number_of, length_of, buffer_of, unless, replied, Answers}
use Rattle.base.specs.Buffer.{over}
use Rattle.base.specs.declared.Answer.{Answer}
use Rattle.settings.specs.Settings.{Settings}
use Rattle.figures.specs.Money.{whole_of, hundredths_of, money_limit}
use Rattle.figures.specs.Refusals.{amount_refusals, Admitted}
use Rattle.uk_money.specs.Currencies.{Currency}
use Rattle.uk_money.specs.Codes.{currency_of}
use Rattle.uk_money.specs.Rows.{currency_at, code_place}
use Rattle.uk_money.proofs.Coded.{coded}
use Rattle.uk_money_calls.proofs.Texts.{admits, hundredths_small}
use Rattle.tally.specs.Tally.{last_item, Tally, empty_tally, sum_in}
use Rattle.tally.specs.Layout.{tally_bytes, tally_in}
use Rattle.tally.proofs.ReadBack.{tally_read}
use Rattle.tally_calls.specs.TallyCalls.{Report, Move, sum_phrase, passes_limit, settings_of, opening, adding, removing, is_full, with_amount, is_held, without_amount, TallyCall, adds, removes, move_of, if_done, Tallies, tally_after, add_report, remove_report}
use Rattle.tally_calls.specs.History.{Amounts, sum_of, Sheet, outcome, sheet_after, item_after, is_sheet_full, with_next, without_item, has_item}
use Rattle.tally_calls.specs.Run.{Run, opened, then}
use Rattle.tally_calls.specs.declared.Tallied.{Tallied}
use Rattle.tally_calls.proofs.ItemAmounts.{out_sum}
use Rattle.tally_calls.proofs.Agreement.{pairs_sum, Agrees, agrees_empty, agrees_added, agrees_removed}
use Rattle.tally_calls.proofs.Replied.{add_passed, remove_passed, unrefused_bytes, not_full, held_there, add_same, remove_same}

-- the bytes hold a tally that agrees with what a list leaves, in one of the 44 currencies
pub record Reached (c : Currency) (s : Sheet) (ts : List ℕ) : Type 0 where
  pub tally : Tally
  pub holds : tally_in ts ≡ some tally
  pub agrees : Agrees c s tally
  pub place : ℕ
  pub place_below : place < 44
  pub place_is : currency_at place ≡ c

-- bytes with a tally laid in them that agrees
laid : {c : Currency} {s : Sheet} {T : Tally} (k : ℕ) → k < 44 → currency_at k ≡ c → Agrees c s T → (xs : List ℕ) → Reached c s (over xs (tally_bytes T))
laid {c} {s} {T} k h e A xs = record {
  tally = T;
  holds = tally_read k h T (A.currency_is ∙ sym e) (omega (arith, A.given_is, A.given_below)) A.size A.ranged (drop (length (tally_bytes T)) xs);
  agrees = A;
  place = k;
  place_below = h;
  place_is = e;
}

-- an opening call that is not refused
module _ (c : Currency) (code xs ys : List ℕ) (r : Answer) (e : currency_of code ≡ some c) (a : Answers r xs ys (replied (opening code) xs)) (z : r.number ≡ 0) where
  empty_held : ys ≡ over xs (tally_bytes (empty_tally c))
  empty_held = go (ltb (length xs) (length b)) (rw e at (sym a.reported ∙ z)) (rw e at a.held)
    where
      b : List ℕ
      b = tally_bytes (empty_tally c)

      go : (t : Bool) → number_of (cond t (refused no_room (length b)) (bytes b)) ≡ 0 → ys ≡ buffer_of xs (cond t (refused no_room (length b)) (bytes b)) → ys ≡ over xs b
      go true n h = absurd (omega arith)
      go false n h = h

  reached_empty : Reached c (record { given = 0; amounts = [] }) ys
  reached_empty = let k = coded code c e in rw empty_held (laid (code_place code) k.0 k.1 (agrees_empty c) xs)

-- one more call
module _ (c : Currency) (s : Sheet) (ts xs : List ℕ) (R : Reached c s ts) where
  abbrev T : Tally
  T = R.tally

  abbrev After : TallyCall → Type 0
  After call = Reached c (if_done (replied (outcome c s call).report.spelling xs) (outcome c s call).sheet s) (tally_after (move_of call ts) xs ts)

  add_step : (S : Settings) (t : List ℕ) → After (adds S t)
  add_step S t = subst (λ (reply : Reply). Reached c (if_done reply (outcome c s (adds S t)).sheet s) (tally_after (adding S (tally_in ts) t) xs ts)) (add_same R.agrees S xs t) (rw R.holds (go (replied (adding S (some T) t).report.spelling xs) refl))
    where
      go : (reply : Reply) → replied (adding S (some T) t).report.spelling xs ≡ reply → Reached c (if_done reply (outcome c s (adds S t)).sheet s) (if_done reply (over ts (tally_bytes (with_amount T t))) ts)
      go (refused n l) e = R
      go (bytes b) e =
          let p = add_passed S T.currency (is_full T) T.given (sum_in (with_amount T t).places) t (unrefused_bytes (adding S (some T) t).report.spelling xs b e) in
          let f = not_full T p.1 in
          let w = (admits t p.0).within in
          let h = hundredths_small t p.0 in
          let g : s.given < last_item = omega (arith, eqb-false T.given last_item f.1, R.agrees.given_is, R.agrees.given_below) in
          laid R.place R.place_below R.place_is (agrees_added R.agrees t f.0 (omega (arith, w)) (omega (arith, h)) g) ts

  remove_step : (S : Settings) (i : ℕ) → After (removes S i)
  remove_step S i = subst (λ (reply : Reply). Reached c (if_done reply (outcome c s (removes S i)).sheet s) (tally_after (removing S (tally_in ts) i) xs ts)) (remove_same R.agrees S xs i) (rw R.holds (go (replied (removing S (some T) i).report.spelling xs) refl))
    where
      go : (reply : Reply) → replied (removing S (some T) i).report.spelling xs ≡ reply → Reached c (if_done reply (outcome c s (removes S i)).sheet s) (if_done reply (over ts (tally_bytes (without_amount T i))) ts)
      go (refused n l) e = R
      go (bytes b) e =
          let h = held_there i T (remove_passed S T.currency (is_held i T) (sum_in (without_amount T i).places) (unrefused_bytes (removing S (some T) i).report.spelling xs b e)) in
          laid R.place R.place_below R.place_is (agrees_removed R.agrees i h.0 h.1) ts

  step : (call : TallyCall) → After call
  step (adds S t) = add_step S t
  step (removes S i) = remove_step S i

  -- its answer
  module _ {ys : List ℕ} {r : Tallied} where
    answer : (A B : Report) → replied A.spelling xs ≡ replied B.spelling xs → A.item ≡ B.item → Tallies r xs ys A → Tallies r xs ys B
    answer A B e f a = record { reported = a.reported ∙ ap number_of e; item_is = a.item_is ∙ ap (λ (q : Reply). if_done q A.item 0) e ∙ ap (λ (n : ℕ). if_done (replied B.spelling xs) n 0) f; sized = a.sized ∙ ap length_of e; held = a.held ∙ ap (buffer_of xs) e }

    answer_of : (call : TallyCall) → Tallies r xs ys (move_of call ts).report → Tallies r xs ys (outcome c s call).report
    answer_of (adds S t) a = answer (adding S (some T) t).report (outcome c s (adds S t)).report (add_same R.agrees S xs t) (ap suc R.agrees.given_is) (subst (λ (U : Option Tally). Tallies r xs ys (adding S U t).report) R.holds a)
    answer_of (removes S i) a = answer (removing S (some T) i).report (outcome c s (removes S i)).report (remove_same R.agrees S xs i) refl (subst (λ (U : Option Tally). Tallies r xs ys (removing S U i).report) R.holds a)

-- after any list
reached : (c : Currency) (es : List (TallyCall × List ℕ)) (ts : List ℕ) → Run c es ts → Reached c (sheet_after c es) ts
unfolding sheet_after
reached c es ts (opened code xs ys r e a z) = reached_empty c code xs ts r e a z
reached c es us (then ds ts ws run call xs e) = rw e (step c (sheet_after c ds) ts xs (reached c ds ts run) call)

-- a reply that refuses nothing is the phrase
pub phrase_done : (X : Spelling) (xs : List ℕ) → number_of (replied X xs) ≡ 0 → replied X xs ≡ bytes X.phrase
phrase_done X xs z = go X.refusal (ltb (length xs) (length X.phrase)) z
  where
    go : (n : ℕ) (b : Bool) → number_of (unless n (cond b (refused no_room (length X.phrase)) (bytes X.phrase))) ≡ 0 → unless n (cond b (refused no_room (length X.phrase)) (bytes X.phrase)) ≡ bytes X.phrase
    go (suc n) b z = absurd (omega arith)
    go zero true z = absurd (omega arith)
    go zero false z = refl

-- without one of the amounts
pub fewer_within : (i : ℕ) (l : Amounts) → passes_limit (sum_of l) ≡ false → passes_limit (sum_of (without_item i l)) ≡ false
fewer_within i l h = le-ltb _ (sum_of (without_item i l) / 100) (omega (arith, ltb-false _ (sum_of l / 100) h, out_sum i l))

module _ (c : Currency) where
  -- "the total is the sum of amounts added and not removed, computed from that list"
  pub total_by_list : {es : List (TallyCall × List ℕ)} {ts : List ℕ} → Run c es ts → (T : Tally) × (tally_in ts ≡ some T) × (T.currency ≡ c) × (sum_in T.places ≡ sum_of (sheet_after c es).amounts)
  total_by_list {es} {ts} run = let R = reached c es ts run in (R.tally, R.holds, R.agrees.currency_is, sym (pairs_sum R.tally.places) ∙ R.agrees.sum_is)

  -- each answer, its number, its item number, its length and its phrase, is the one computed from the list before it
  pub answer_by_list : {es : List (TallyCall × List ℕ)} {ts : List ℕ} → Run c es ts → (call : TallyCall) {xs ys : List ℕ} {r : Tallied} → Tallies r xs ys (move_of call ts).report → Tallies r xs ys (outcome c (sheet_after c es) call).report
  answer_by_list {es} {ts} run call {xs} a = answer_of c (sheet_after c es) ts xs (reached c es ts run) call a

  -- where a call refuses nothing, its phrase is that of the sum of the list with this call
  total_said : (s : Sheet) (call : TallyCall) (q : Reply) → q ≡ bytes (outcome c s call).report.spelling.phrase
      → bytes (sum_phrase (settings_of call) c (sum_of (if_done q (outcome c s call).sheet s).amounts)) ≡ q
  total_said s (adds S t) q e = rw e refl
  total_said s (removes S i) q e = rw e refl

  pub total_spoken : {es : List (TallyCall × List ℕ)} {ts : List ℕ} → Run c es ts → (call : TallyCall) {xs ys : List ℕ} {r : Tallied} → Tallies r xs ys (move_of call ts).report → r.refusal ≡ 0
      → ys ≡ over xs (sum_phrase (settings_of call) c (sum_of (sheet_after c ((call, xs) ∷ es)).amounts))
  unfolding sheet_after
  total_spoken {es} {ts} run call {xs} a z =
      let b = answer_by_list run call a in
      let s = sheet_after c es in
      let X = (outcome c s call).report.spelling in
      b.held ∙ ap (buffer_of xs) (sym (total_said s call (replied X xs) (phrase_done X xs (sym b.reported ∙ z))))

  -- item numbers given so far
  abbrev given : List (TallyCall × List ℕ) → ℕ
  given es = (sheet_after c es).given

  given_step : (e : TallyCall × List ℕ) (es : List (TallyCall × List ℕ)) → (given es ≤ given (e ∷ es)) × (item_after c es e ≤ given (e ∷ es)) × ((item_after c es e ≡ 0 → ⊥) → item_after c es e ≡ suc (given es))
  unfolding sheet_after
  given_step (adds S t, xs) es = go (replied (outcome c (sheet_after c es) (adds S t)).report.spelling xs)
    where
      go : (q : Reply) → let s = if_done q (outcome c (sheet_after c es) (adds S t)).sheet (sheet_after c es) in (given es ≤ s.given) × (if_done q (suc (given es)) 0 ≤ s.given) × ((if_done q (suc (given es)) 0 ≡ 0 → ⊥) → if_done q (suc (given es)) 0 ≡ suc (given es))
      go (bytes b) = (omega arith, omega arith, λ n. refl)
      go (refused n l) = (omega arith, omega arith, λ n. absurd (n refl))
  given_step (removes S i, xs) es = go (replied (outcome c (sheet_after c es) (removes S i)).report.spelling xs)
    where
      go : (q : Reply) → let s = if_done q (outcome c (sheet_after c es) (removes S i)).sheet (sheet_after c es) in (given es ≤ s.given) × (if_done {A = ℕ} q 0 0 ≤ s.given) × ((if_done {A = ℕ} q 0 0 ≡ 0 → ⊥) → if_done {A = ℕ} q 0 0 ≡ suc (given es))
      go (bytes b) = (omega arith, omega arith, λ n. absurd (n refl))
      go (refused n l) = (omega arith, omega arith, λ n. absurd (n refl))

  given_grows : (later es : List (TallyCall × List ℕ)) → given es ≤ given (later ++ es)
  given_grows [] es = omega arith
  given_grows (e ∷ later) es = omega (arith, given_grows later es, (given_step e (later ++ es)).0)

  -- "never used twice": the item numbers that two calls of a list report are different ones, if they report one
  pub never_twice : (later earlier : List (TallyCall × List ℕ)) (first second : TallyCall × List ℕ) → (item_after c earlier first ≡ 0 → ⊥) → item_after c earlier first ≡ item_after c (later ++ first ∷ earlier) second → ⊥
  never_twice later earlier first second n e =
      let s = (given_step second (later ++ first ∷ earlier)).2 (λ z. n (e ∙ z)) in
      omega (arith, (given_step first earlier).1, given_grows later (first ∷ earlier), s, e)

  -- no list's sum passes the limit
  pub sum_within : (es : List (TallyCall × List ℕ)) → passes_limit (sum_of (sheet_after c es).amounts) ≡ false
  unfolding sheet_after
  sum_within [] = refl
  sum_within ((adds S t, xs) ∷ es) = go (replied (outcome c (sheet_after c es) (adds S t)).report.spelling xs) refl (sum_within es)
    where
      s : Sheet
      s = sheet_after c es

      go : (q : Reply) → replied (outcome c s (adds S t)).report.spelling xs ≡ q → passes_limit (sum_of s.amounts) ≡ false → passes_limit (sum_of (if_done q (outcome c s (adds S t)).sheet s).amounts) ≡ false
      go (bytes b) e h = (add_passed S c (is_sheet_full s) s.given (sum_of (with_next s t)) t (unrefused_bytes (outcome c s (adds S t)).report.spelling xs b e)).2
      go (refused n l) e h = h
  sum_within ((removes S i, xs) ∷ es) = go (replied (outcome c (sheet_after c es) (removes S i)).report.spelling xs) (sum_within es)
    where
      s : Sheet
      s = sheet_after c es

      go : (q : Reply) → passes_limit (sum_of s.amounts) ≡ false → passes_limit (sum_of (if_done q (outcome c s (removes S i)).sheet s).amounts) ≡ false
      go (bytes b) h = fewer_within i s.amounts h
      go (refused n l) h = h
