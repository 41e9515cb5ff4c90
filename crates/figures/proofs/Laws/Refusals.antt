-- What is refused, and what it says of a text that nothing is.
-- Assumes nothing.
use Rattle.std.proofs.Common.{◌≡◌, ℕ, ◌*◌, ◌^◌, ◌<◌, ◌≤◌, Bool, true, false, not, ltb, List, length, refl, arith, ltb-false, le-ltb}
use Rattle.figures.specs.Judging.{judged}
use Rattle.figures.specs.Text.{value, unsigned, well_formed}
use Rattle.figures.proofs.Laws.Plain.{plain_digits}
use Rattle.figures.proofs.Laws.Groups.{hold}
use Rattle.figures.proofs.Laws.Sign.{formed_unsigned}

-- a text of which nothing is refused is well formed, has no sign that is refused, and is within its limit; and only such a text
pub record Passed (is_formed is_refused : Bool) (size limit : ℕ) : Type 0 where
  pub formed : is_formed ≡ true
  pub sign : is_refused ≡ false
  pub within : size ≤ limit

pub passed : (f r : Bool) (size limit : ℕ) → judged (not f) r (ltb limit size) ≡ 0 → Passed f r size limit
passed f r size limit e = go f r (ltb limit size) refl e
  where
    go : (f r t : Bool) → ltb limit size ≡ t → judged (not f) r t ≡ 0 → Passed f r size limit
    go false r t p e = absurd (omega arith)
    go true true t p e = absurd (omega arith)
    go true false true p e = absurd (omega arith)
    go true false false p e = record { formed = refl; sign = refl; within = ltb-false limit size p }

pub none_refused : {f r : Bool} {size limit : ℕ} → Passed f r size limit → judged (not f) r (ltb limit size) ≡ 0
none_refused {f} {r} {size} {limit} a = rw (a.formed, a.sign, le-ltb limit size a.within)

-- a text of at most k * 3 digits has a value that k groups hold
pub passed_held : {is_refused : Bool} (k : ℕ) (t : List ℕ) → Passed (well_formed t) is_refused (length (unsigned t)) (k * 3) → value (unsigned t) < 1000 ^ k
passed_held k t a = hold k (unsigned t) (plain_digits (unsigned t) (formed_unsigned t a.formed)) a.within
