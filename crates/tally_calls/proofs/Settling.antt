-- From what a call decides to what it answers and stores.
-- Assumes nothing.
use Prim.Native.Nat.{ℕ, zero, suc, ◌≤◌, ◌<◌}
use mathlib.Core.Path.{◌≡◌, refl, ◌∙◌}
use native.Mathlib.Omega.{arith}
use mathlib.Core.Bool.{Bool, true, false, cond}
use mathlib.Core.List.{List}
use lib.Dec.{ltb}
use lib.ListN.{length}
use Rattle.std.proofs.Common.{Result, Ok, Err, IfOk}
use Rattle.base.specs.Answer.{Spelling, no_room, refused, bytes, number_of, unless, replied}
use Rattle.base.specs.Refused.{refusal_number}
use Rattle.base.specs.declared.Refusal.{Refusal}
use Rattle.base.specs.Buffer.{over}
use Rattle.tally_calls.specs.TallyCalls.{Move, if_done, Tallies, tally_after}
use Rattle.tally_calls.specs.Changes.{change_answer, tallied_of, changed, Prepares}
use Rattle.tally_calls.specs.declared.deciding.Change.{Change}
use Rattle.tally_calls.proofs.Decisions.{numbered}

-- what goes by a call's outcome goes by its reply
by_outcome : {A : Type 0} (s : Spelling) (xs : List ℕ) (x y : A) (f : Result Change Refusal → A) (r : Result Change Refusal) → (change_answer r).number ≡ number_of (replied s xs)
    → ((d : Change) → r ≡ Ok d → f (Ok d) ≡ x) → ((e : Refusal) → f (Err e) ≡ y) → f r ≡ if_done (replied s xs) x y
by_outcome s xs x y f (Ok d) e done other = go s.refusal (ltb (length xs) (length s.phrase)) e
  where
    go : (k : ℕ) (b : Bool) → 0 ≡ number_of (unless k (cond b (refused no_room (length s.phrase)) (bytes s.phrase))) → f (Ok d) ≡ if_done (unless k (cond b (refused no_room (length s.phrase)) (bytes s.phrase))) x y
    go (suc k) b e = absurd (omega arith)
    go zero true e = absurd (omega arith)
    go zero false e = done d refl
by_outcome s xs x y f (Err refusal) e done other = go s.refusal (ltb (length xs) (length s.phrase)) e
  where
    go : (k : ℕ) (b : Bool) → refusal_number refusal ≡ number_of (unless k (cond b (refused no_room (length s.phrase)) (bytes s.phrase))) → f (Err refusal) ≡ if_done (unless k (cond b (refused no_room (length s.phrase)) (bytes s.phrase))) x y
    go (suc k) b e = other refusal
    go zero true e = other refusal
    go zero false e = absurd (numbered refusal e)

module _ {r : Result Change Refusal} {ts xs ys : List ℕ} {move : Move} (decides : Prepares r ts xs ys move) where
  pub tallies : Tallies (tallied_of r) xs ys move.report
  tallies = record {
    reported = number r ∙ decides.weighs.reported;
    item_is = by_outcome move.report.spelling xs move.report.item 0 (λ (o : Result Change Refusal). (tallied_of o).item) r decides.weighs.reported (λ d e. (decides.settles d e).item_is) (λ e. refl);
    sized = size r ∙ decides.weighs.sized;
    held = decides.weighs.held;
  }
    where
      number : (r : Result Change Refusal) → (tallied_of r).refusal ≡ (change_answer r).number
      number (Ok d) = refl
      number (Err e) = refl

      size : (r : Result Change Refusal) → (tallied_of r).length ≡ (change_answer r).length
      size (Ok d) = refl
      size (Err e) = refl

  pub settled : changed r ts ≡ tally_after move xs ts
  settled = by_outcome move.report.spelling xs (over ts move.after) ts (λ (o : Result Change Refusal). changed o ts) r decides.weighs.reported (λ d e. (decides.settles d e).after) (λ e. refl)

  -- what is not refused can be stored
  pub storable : IfOk r (λ d. (d.at < 64) × (837 ≤ length ts))
  storable = go r refl
    where
      go : (o : Result Change Refusal) → r ≡ o → IfOk o (λ d. (d.at < 64) × (837 ≤ length ts))
      go (Ok d) e = let s = decides.settles d e in (s.place_below, s.long)
      go (Err refusal) e = tt
