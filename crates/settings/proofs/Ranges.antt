-- Settings in their ranges, as a test and as a statement.
-- Assumes nothing.
use Prim.Native.Nat.{ℕ}
use mathlib.Core.Path.{◌≡◌, refl}
use mathlib.Core.Bool.{Bool, true, false, not, cond}
use mathlib.Core.List.{List, [], ◌∷◌}
use native.Mathlib.Omega.{arith}
use lib.Dec.{ltb}
use borrow.Author.Tests.{ltb-true}
use Rattle.tables.proofs.Tests.{and_left, and_right}
use Rattle.base.specs.Answer.{first_of}
use Rattle.settings.specs.Settings.{within, Within}
use Rattle.settings.specs.Refused.{out_of_range}

pub within_holds : (rs : List (ℕ × ℕ)) → within rs ≡ true → Within rs
within_holds [] e = tt
within_holds (r ∷ rs) e =
    (ltb-true r.0 r.1 (and_left (ltb r.0 r.1) (within rs) e), within_holds rs (and_right (ltb r.0 r.1) (within rs) e))

-- a call of which nothing is refused has its settings in their ranges, and none of the conditions behind that holds
pub record Unrefused (rs : List (ℕ × ℕ)) (cs : List (Bool × ℕ)) : Type 0 where
  pub test : within rs ≡ true
  pub settings : Within rs
  pub others : first_of cs ≡ 0

pub unrefused : {rs : List (ℕ × ℕ)} {cs : List (Bool × ℕ)} → first_of (out_of_range rs ∷ cs) ≡ 0 → Unrefused rs cs
unrefused {rs} {cs} e = go (within rs) refl e
  where
    go : (b : Bool) → within rs ≡ b → cond (not b) 1 (first_of cs) ≡ 0 → Unrefused rs cs
    go true t e = record { test = t; settings = within_holds rs t; others = e }
    go false t e = absurd (omega arith)

-- a call that refuses no settings has them in their ranges, and refuses what the conditions behind them do
pub in_range : (rs : List (ℕ × ℕ)) → first_of (out_of_range rs ∷ []) ≡ 0 → Within rs
in_range rs e = (unrefused {rs = rs} {cs = []} e).settings

pub behind_settings : (rs : List (ℕ × ℕ)) (cs : List (Bool × ℕ)) → first_of (out_of_range rs ∷ []) ≡ 0 → first_of (out_of_range rs ∷ cs) ≡ first_of cs
behind_settings rs cs e = rw (unrefused {rs = rs} {cs = []} e).test refl
