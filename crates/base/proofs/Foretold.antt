-- A measure foretells the spelling call's answer: one proof, over any call's refusal and phrase and any buffer.
-- Assumes nothing.
use Prim.Native.Nat.{ℕ, zero, suc, ◌<◌}
use mathlib.Core.Path.{◌≡◌, refl, ap, ◌∙◌}
use mathlib.Core.List.{List}
use native.Mathlib.Omega.{arith}
use native.Mathlib.Decide.{dec_lt}
use borrow.Author.Tests.{lt-ltb, le-ltb}
use lib.ListN.{length, take}
use lib.Seq.{take-append_seam}
use Rattle.base.specs.Answer.{Spelling, fitted, unless, replied, Answers}
use Rattle.base.specs.Measure.{spaces, measure_unless, measured, Foretells}
use Rattle.base.specs.declared.Answer.{Answer}

by_refusal : (n : ℕ) (p : List ℕ) {r : Answer} {xs ys : List ℕ} → Answers r xs ys (unless n (fitted xs p)) → Foretells (measure_unless n p) r xs ys
by_refusal zero p {r} {xs} {ys} a = go (dec_lt (length xs) (length p))
  where
    go : Dec (length xs < length p) → Foretells (measure_unless 0 p) r xs ys
    go (yes h) =
        let b = rw (lt-ltb _ _ h) at a in
        record { if_spelled = λ z k. absurd (omega arith); if_small = λ k. (b.reported, b.sized, b.held); if_refused = λ z. absurd (z refl) }
    go (no h) =
        let b = rw (le-ltb (length xs) (length p) (omega arith)) at a in
        record {
          if_spelled = λ z k. (b.reported, b.sized, rw (b.sized, b.held, take-append_seam p) refl);
          if_small = λ k. absurd (omega arith);
          if_refused = λ z. absurd (z refl);
        }
by_refusal (suc n) p a = record { if_spelled = λ z k. absurd (omega arith); if_small = λ k. absurd (omega arith); if_refused = λ z. (a.reported, refl, refl) }

pub foretold : (call : Spelling) {r : Answer} {xs ys : List ℕ} → Answers r xs ys (replied call xs) → Foretells (measured call) r xs ys
foretold call a = by_refusal call.refusal call.phrase a
