-- Answers against the replies that calls define.
-- Assumes nothing.
use Prim.Native.Nat.{ℕ, zero, suc}
use mathlib.Core.Path.{◌≡◌, refl, sym, ◌∙◌}
use mathlib.Core.List.{List}
use Rattle.base.specs.Answer.{Reply, refused, fitted, unless, Answers}
use Rattle.base.specs.Reading.{Reading, earlier, Reads}
use Rattle.base.specs.declared.Answer.{Answer}

-- a refusal
pub refuses : {r : Answer} {xs : List ℕ} {n : ℕ} → (r.number ≡ n) × (r.length ≡ 0) → Answers r xs xs (refused n 0)
refuses a = record { reported = a.0; sized = a.1; held = refl }

-- a refusal that is not 0
pub refused_as : (r : Answer) (xs : List ℕ) (reply : Reply) (n m : ℕ) → (r.number ≡ n) × (r.length ≡ 0) → n ≡ m → (n ≡ 0 → ⊥) → Answers r xs xs (unless m reply)
refused_as r xs reply n zero a e z = absurd (z e)
refused_as r xs reply n (suc m) a e z = refuses (rw e at a.0, a.1)

-- bytes where there is no refusal
pub said : (r : Answer) (xs ys b : List ℕ) (m : ℕ) → m ≡ 0 → Answers r xs ys (fitted xs b) → Answers r xs ys (unless m (fitted xs b))
said r xs ys b m e a = rw e a

-- the same bytes
pub heard : (r : Answer) (xs ys : List ℕ) {b c : List ℕ} → b ≡ c → Answers r xs ys (fitted xs b) → Answers r xs ys (fitted xs c)
heard r xs ys e a = rw (← e) a

-- a reading call's refusal that comes before the phrase's
pub refuses_first : (R : Reading) (s : List ℕ) (r : Answer) (xs : List ℕ) (n : ℕ) → (r.number ≡ n) × (r.length ≡ 0) → R.refusal ≡ n → (n ≡ 0 → ⊥) → Reads R s r xs xs
refuses_first R s r xs n a e z = record { reply = refused R.refusal 0; is_reply = earlier (λ f. z (sym e ∙ f)); is_answer = refuses (a.0 ∙ sym e, a.1) }
