-- An answer of measured bytes.
-- Assumes nothing.
use Prim.Native.Nat.{ℕ, ◌<◌, ◌≤◌}
use mathlib.Core.Path.{◌≡◌, refl}
use mathlib.Core.List.{List}
use native.Mathlib.Omega.{arith}
use borrow.Author.Tests.{lt-ltb, le-ltb}
use lib.ListN.{length}
use Rattle.std.proofs.Common.{Ok, Err}
use Rattle.base.specs.Buffer.{over}
use Rattle.base.specs.Answer.{fitted, Answers}
use Rattle.base.specs.Refused.{answer_of}
use Rattle.base.specs.declared.Refusal.TheVariants.{NoRoom}

module _ (xs b : List ℕ) (l : ℕ) (e : l ≡ length b) where
  pub too_long : length xs < l → Answers (answer_of (Err (NoRoom l))) xs xs (fitted xs b)
  too_long h = rw (lt-ltb (length xs) (length b) (omega arith)) (record { reported = refl; sized = e; held = refl })

  pub written : (ys : List ℕ) → l ≤ length xs → ys ≡ over xs b → Answers (answer_of (Ok l)) xs ys (fitted xs b)
  written ys h f = rw (le-ltb (length xs) (length b) (omega arith)) (record { reported = refl; sized = e; held = f })
