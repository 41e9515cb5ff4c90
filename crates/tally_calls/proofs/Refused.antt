-- What is refused of a call on a tally before its tally is looked into: its settings, and a text that is added.
-- Assumes nothing.
use Prim.Native.Nat.{ℕ}
use mathlib.Core.Path.{◌≡◌, refl}
use mathlib.Core.Bool.{Bool, true, false, cond}
use mathlib.Core.List.{List, [], ◌∷◌, ◌++◌}
use mathlib.Core.Option.{none, some}
use Rattle.base.specs.Answer.{wrong_code, tally_full, sum_too_large, first_of}
use Rattle.settings.specs.Settings.{ukrainian_ranges, within, Settings}
use Rattle.settings.specs.Chosen.{numbers_of}
use Rattle.settings.specs.declared.ukrainian.Ukrainian.{Ukrainian}
use Rattle.figures.specs.Refusals.{amount_refusals}
use Rattle.tally.specs.Tally.{Tally, sum_in}
use Rattle.tally_calls.specs.TallyCalls.{passes_limit, is_full, with_amount, adding, removing}
use Rattle.tally_calls.proofs.Decisions.{ranges}

-- conditions of which one holds, before others
first_append : (cs ds : List (Bool × ℕ)) → (first_of cs ≡ 0 → ⊥) → first_of (cs ++ ds) ≡ first_of cs
first_append [] ds z = absurd (z refl)
first_append (c ∷ cs) ds z = go c.0 z (first_append cs ds)
  where
    go : (b : Bool) → (cond b c.1 (first_of cs) ≡ 0 → ⊥) → ((first_of cs ≡ 0 → ⊥) → first_of (cs ++ ds) ≡ first_of cs) → cond b c.1 (first_of (cs ++ ds)) ≡ cond b c.1 (first_of cs)
    go true z f = refl
    go false z f = f z

-- settings that are chosen are in their ranges: bytes that hold no tally, and a text of which something is refused
module _ (settings : Ukrainian) {S : Settings} (chosen : numbers_of settings ≡ S) where
  in_ranges : within (ukrainian_ranges S) ≡ true
  in_ranges = rw (← chosen) (ranges settings)

  pub adds_nowhere : (t : List ℕ) → (adding S none t).report.spelling.refusal ≡ wrong_code
  adds_nowhere t = rw in_ranges refl

  pub removes_nowhere : (i : ℕ) → (removing S none i).report.spelling.refusal ≡ wrong_code
  removes_nowhere i = rw in_ranges refl

  pub adds_text : (T : Tally) (t : List ℕ) → (first_of (amount_refusals t) ≡ 0 → ⊥) → (adding S (some T) t).report.spelling.refusal ≡ first_of (amount_refusals t)
  adds_text T t z = rw in_ranges (first_append (amount_refusals t) ((is_full T, tally_full) ∷ (passes_limit (sum_in (with_amount T t).places), sum_too_large) ∷ []) z)
