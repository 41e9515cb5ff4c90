-- The calls on a tally (02, W4): what a list of them comes to, and the numbers that they answer with. Of the calls only their contracts are known: r is any
-- answer, for a phrase's buffer xs left as ys, that the contract of a call on the tally ts, or of its preview, allows.
-- Assumes nothing.
use Prim.Native.Nat.{ℕ, ◌/◌, ◌%◌, ◌≤◌}
use mathlib.Core.Path.{◌≡◌, refl, ap}
use mathlib.Core.Bool.{Bool, true, false, not}
use mathlib.Core.Logic.{inl, inr}
use mathlib.Core.List.{List, [], ◌∷◌, ◌++◌}
use mathlib.Core.Option.{Option, none, some}
use native.Mathlib.Omega.{arith}
use Rattle.base.specs.Answer.{wrong_setting, wrong_code, malformed, wrong_sign, too_large, no_room, tally_full, sum_too_large, not_held, number_of, replied}
use Rattle.base.specs.Buffer.{over}
use Rattle.base.specs.declared.Measure.{Measure}
use Rattle.settings.specs.Settings.{ukrainian_ranges}
use Rattle.settings.specs.Settings.{Settings}
use Rattle.figures.specs.Refusals.{amount_refusals}
use Rattle.figures.specs.Value.{IsAmount}
use Rattle.uk_money.specs.Currencies.{Currency}
use Rattle.uk_money_calls.specs.MoneyCalls.{money_phrase}
use Rattle.tally.specs.Tally.{Tally, sum_in}
use Rattle.tally.specs.Layout.{tally_in}
use Rattle.tally_calls.specs.TallyCalls.{sum_phrase, passes_limit, settings_of, add_report, remove_report, is_full, with_amount, adding, is_held, without_amount, removing, TallyCall, adds, removes, move_of, Tallies}
use Rattle.tally_calls.specs.History.{sum_of, without_item, has_item, Sheet, is_sheet_full, with_next, outcome, sheet_after, item_after}
use Rattle.tally_calls.specs.Run.{Run}
use Rattle.tally_calls.specs.declared.Tallied.{Tallied}
use Rattle.tally_calls.proofs.Theorem as tally_theorem
use Rattle.yokepear.specs.Calls.{spelling_of, NumberOfCall, of_answer, of_measure, of_tally, OneOf}
use Rattle.yokepear.proofs.Numbers.{settings_then, replied_is, refusal_is, measured_refusal, number_known}

module _ {c : Currency} {es : List (TallyCall × List ℕ)} {ts : List ℕ} (run : Run c es ts) where
  -- "After any list of adds and removes from an empty tally, refused ones included, the total is the sum of amounts added and not removed, computed from
  -- that list"
  pub total_by_list : (T : Tally) × (tally_in ts ≡ some T) × (T.currency ≡ c) × (sum_in T.places ≡ sum_of (sheet_after c es).amounts)
  total_by_list = tally_theorem.total_by_list c run

  -- each answer is the one computed from the list before it: number, item number, length and phrase
  pub answer_by_list : (call : TallyCall) {xs ys : List ℕ} {r : Tallied} → Tallies r xs ys (move_of call ts).report → Tallies r xs ys (outcome c (sheet_after c es) call).report
  answer_by_list call a = tally_theorem.answer_by_list c run call a

  -- the item number among it
  pub item_by_list : (call : TallyCall) {xs ys : List ℕ} {r : Tallied} → Tallies r xs ys (move_of call ts).report → r.item ≡ item_after c es (call, xs)
  item_by_list call a = (answer_by_list call a).item_is

  -- "and its phrase is the money phrase of that sum": where a call refuses nothing, the buffer has the phrase of the sum of the list with this call
  pub total_spoken : (call : TallyCall) {xs ys : List ℕ} {r : Tallied} → Tallies r xs ys (move_of call ts).report → r.refusal ≡ 0
      → ys ≡ over xs (sum_phrase (settings_of call) c (sum_of (sheet_after c ((call, xs) ∷ es)).amounts))
  total_spoken call a z = tally_theorem.total_spoken c run call a z

-- such a phrase is the money call's, of a text that is the sum's (uk_money_calls/specs/MoneyCalls.antt)
pub spoken_as_money : (S : Settings) (c : Currency) (sum : ℕ) (t : List ℕ) → IsAmount (sum / 100) (sum % 100) t → money_phrase S (some c) t ≡ sum_phrase S c sum
spoken_as_money S c sum t a = rw (a.whole_is, a.hundredths_are) refl

-- item numbers are "never used twice": of two calls of a list, each of which reports one, the later reports another
pub never_twice : (c : Currency) (later earlier : List (TallyCall × List ℕ)) (first second : TallyCall × List ℕ)
    → (item_after c earlier first ≡ 0 → ⊥) → item_after c earlier first ≡ item_after c (later ++ first ∷ earlier) second → ⊥
never_twice = tally_theorem.never_twice

-- what holds of the numbers of the conditions that a call on a tally names holds of the number that it answers with
module _ (P : ℕ → Type 0) (none_is : P 0) (setting-is : P wrong_setting) (room-is : P no_room) where
  add_is : P malformed → P wrong_sign → P too_large → P tally_full → P sum_too_large → (S : Settings) (c : Currency) (full : Bool) (given sum : ℕ) (t xs : List ℕ) → P (number_of (replied (add_report S c full given sum t).spelling xs))
  add_is text sign size Full-is sum_is_lem S c full given sum t xs =
      let r = (add_report S c full given sum t).spelling in
      replied_is P none_is setting-is room-is r.refusal xs r.phrase (settings_then P none_is setting-is (ukrainian_ranges S) (amount_refusals t ++ ((full, tally_full) ∷ (passes_limit sum, sum_too_large) ∷ [])) (text, (sign, (size, (Full-is, (sum_is_lem, tt))))))

  remove_is : P not_held → P sum_too_large → (S : Settings) (c : Currency) (held : Bool) (sum : ℕ) (xs : List ℕ) → P (number_of (replied (remove_report S c held sum).spelling xs))
  remove_is held-is sum_is_lem S c held sum xs =
      let r = (remove_report S c held sum).spelling in
      replied_is P none_is setting-is room-is r.refusal xs r.phrase (settings_then P none_is setting-is (ukrainian_ranges S) ((not held, not_held) ∷ (passes_limit sum, sum_too_large) ∷ []) (held-is, (sum_is_lem, tt)))

  -- where the sum is within the limit
  remove_within : P not_held → (S : Settings) (c : Currency) (held : Bool) (sum : ℕ) (xs : List ℕ) → passes_limit sum ≡ false → P (number_of (replied (remove_report S c held sum).spelling xs))
  remove_within held-is S c held sum xs e =
      let r = (remove_report S c held sum).spelling in
      replied_is P none_is setting-is room-is r.refusal xs r.phrase (rw e (settings_then P none_is setting-is (ukrainian_ranges S) ((not held, not_held) ∷ []) (held-is, tt)))

  -- on any bytes
  module _ (code_is : P wrong_code) where
    no_tally_is : (S : Settings) (xs : List ℕ) → P (number_of (replied (adding S none []).report.spelling xs))
    no_tally_is S xs = replied_is P none_is setting-is room-is (adding S none []).report.spelling.refusal xs [] (settings_then P none_is setting-is (ukrainian_ranges S) ((true, wrong_code) ∷ []) (code_is, tt))

    call_is : P malformed → P wrong_sign → P too_large → P tally_full → P sum_too_large → P not_held → (call : TallyCall) (ts xs : List ℕ) → P (number_of (replied (move_of call ts).report.spelling xs))
    call_is text sign size Full-is sum_is_lem held-is (adds S t) ts xs = go (tally_in ts)
      where
        go : (T : Option Tally) → P (number_of (replied (adding S T t).report.spelling xs))
        go none = no_tally_is S xs
        go (some T) = add_is text sign size Full-is sum_is_lem S T.currency (is_full T) T.given (sum_in (with_amount T t).places) t xs
    call_is text sign size Full-is sum_is_lem held-is (removes S i) ts xs = go (tally_in ts)
      where
        go : (T : Option Tally) → P (number_of (replied (removing S T i).report.spelling xs))
        go none = no_tally_is S xs
        go (some T) = remove_is held-is sum_is_lem S T.currency (is_held i T) (sum_in (without_amount T i).places) xs

-- every number that a call on any bytes answers with is one of the table, or 0
pub tally_number_known : (call : TallyCall) (ts xs ys : List ℕ) (r : Tallied) → Tallies r xs ys (move_of call ts).report → r.refusal ≤ not_held
tally_number_known call ts xs ys r a = rw a.reported (call_is (λ (n : ℕ). n ≤ not_held) (omega arith) (omega arith) (omega arith) (omega arith) (omega arith) (omega arith) (omega arith) (omega arith) (omega arith) (omega arith) call ts xs)

-- every call's number is one of the table, with what 02 adds to it, or 0
pub every_number_known : (n : ℕ) → NumberOfCall n → n ≤ not_held
every_number_known n (of_answer r xs ys a) = omega (arith, number_known r xs ys a)
every_number_known n (of_measure call m e) = rw (ap (λ (m : Measure). m.refusal) e, measured_refusal (spelling_of call).refusal (spelling_of call).phrase) (refusal_is (λ (n : ℕ). n ≤ not_held) (omega arith) (omega arith) (omega arith) (omega arith) (omega arith) (omega arith) call)
every_number_known n (of_tally call ts r xs ys a) = tally_number_known call ts xs ys r a

-- on a tally that calls made, "8 is checked before 9; all three follow 5 and precede 7": adding gives these
pub adding_gives : {c : Currency} {es : List (TallyCall × List ℕ)} {ts : List ℕ} → Run c es ts → (S : Settings) (t xs ys : List ℕ) (r : Tallied)
    → Tallies r xs ys (move_of (adds S t) ts).report → OneOf (0 ∷ wrong_setting ∷ malformed ∷ wrong_sign ∷ too_large ∷ tally_full ∷ sum_too_large ∷ no_room ∷ []) r.refusal
adding_gives {c} {es} run S t xs ys r a =
    rw (answer_by_list run (adds S t) a).reported
    (add_is (OneOf (0 ∷ wrong_setting ∷ malformed ∷ wrong_sign ∷ too_large ∷ tally_full ∷ sum_too_large ∷ no_room ∷ [])) (inl refl) (inr (inl refl)) (inr (inr (inr (inr (inr (inr (inr (inl refl))))))))
    (inr (inr (inl refl))) (inr (inr (inr (inl refl)))) (inr (inr (inr (inr (inl refl))))) (inr (inr (inr (inr (inr (inl refl)))))) (inr (inr (inr (inr (inr (inr (inl refl)))))))
    S c (is_sheet_full (sheet_after c es)) (sheet_after c es).given (sum_of (with_next (sheet_after c es) t)) t xs)

-- and removing these
pub removing_gives : {c : Currency} {es : List (TallyCall × List ℕ)} {ts : List ℕ} → Run c es ts → (S : Settings) (i : ℕ) (xs ys : List ℕ) (r : Tallied)
    → Tallies r xs ys (move_of (removes S i) ts).report → OneOf (0 ∷ wrong_setting ∷ not_held ∷ no_room ∷ []) r.refusal
removing_gives {c} {es} run S i xs ys r a =
    let s = sheet_after c es in
    rw (answer_by_list run (removes S i) a).reported
    (remove_within (OneOf (0 ∷ wrong_setting ∷ not_held ∷ no_room ∷ [])) (inl refl) (inr (inl refl)) (inr (inr (inr (inl refl)))) (inr (inr (inl refl)))
    S c (has_item i s.amounts) (sum_of (without_item i s.amounts)) xs (tally_theorem.fewer_within i s.amounts (tally_theorem.sum_within c es)))
