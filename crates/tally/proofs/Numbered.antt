-- The code of each currency stands at its own place: a test that antt computes over the 44.
-- Assumes nothing.
use Prim.Native.Nat.{ℕ, zero, suc, ◌+◌, ◌<◌}
use mathlib.Core.Path.{◌≡◌, refl, sym, ap, ◌∙◌}
use mathlib.Core.List.{List, [], ◌∷◌, map}
use native.Mathlib.Omega.{arith}
use lib.ListN.{get_or, get_or-map}
use Rattle.base.specs.Utf8.{utf8}
use Rattle.uk_money.specs.Currencies.{Currency, currencies}
use Rattle.uk_money.specs.Rows.{past, currency_at, code_place_in, code_place}

-- the n numbers from a on
abbrev from : ℕ → ℕ → List ℕ
from a zero = []
from a (suc n) = a ∷ from (suc a) n

-- the i-th of them
from_at : (a n i d : ℕ) → i < n → get_or (from a n) i d ≡ a + i
from_at a zero i d h = absurd (omega arith)
from_at a (suc n) zero d h = omega arith
from_at a (suc n) (suc i) d h = from_at (suc a) n i d (omega arith) ∙ omega arith

-- the place of a currency's code
abbrev home : Currency → ℕ
home c = code_place (utf8 c.code)

-- the places of all the codes, in order
homes : map home currencies ≡ from 0 44
unfolding currencies code_place_in
homes = refl

-- the place of the code of the currency at k is k
pub place_of_code : (k : ℕ) → k < 44 → code_place (utf8 (currency_at k).code) ≡ k
place_of_code k h = sym (get_or-map home currencies k past) ∙ ap (λ l. get_or l k (home past)) homes ∙ from_at 0 44 k (home past) h ∙ omega arith
