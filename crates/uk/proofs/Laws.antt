-- Settings as the code makes them: at an order, and in agreement.
-- Assumes nothing.
use Prim.Native.Nat.{ℕ, zero, suc, ◌<◌}
use mathlib.Core.Path.{◌≡◌, refl}
use mathlib.Core.Bool.{Bool, true, false, cond}
use native.Mathlib.Omega.{arith}
use Rattle.settings.specs.Settings.{masculine, feminine, singular, plural, genitive, ukrainian_ranges, Within, in_gender, Settings}
use Rattle.uk.specs.Ukrainian.{at_order, agreed_number, agreed_case, agreed}

-- settings in their ranges stay there in another gender, at an order, and in agreement
pub gendered : (g : ℕ) (S : Settings) → g < 3 → Within (ukrainian_ranges S) → Within (ukrainian_ranges (in_gender g S))
gendered g S h w = (h, w.1)

pub ordered : (k : ℕ) (S : Settings) → Within (ukrainian_ranges S) → Within (ukrainian_ranges (at_order k S))
ordered zero S w = w
ordered (suc zero) S w = gendered 1 S (omega arith) w
ordered (suc (suc k)) S w = gendered 0 S (omega arith) w

-- one of two numbers, whatever chooses it
either_below : (b : Bool) (x y k : ℕ) → x < k → y < k → cond b x y < k
either_below true x y k p q = p
either_below false x y k p q = q

agreed_number_lem : (t u : ℕ) → agreed_number t u < 2
agreed_number_lem t u = let p : plural < 2 = omega arith in let q : singular < 2 = omega arith in search (either_below, p, q)

agreed_case_lem : (S : Settings) (t u : ℕ) → S.case < 6 → agreed_case S t u < 6
agreed_case_lem S t u h = let p : genitive < 6 = omega arith in search (either_below, p, h)

pub agrees : (t u : ℕ) (S : Settings) → Within (ukrainian_ranges S) → Within (ukrainian_ranges (agreed t u S))
agrees t u S w = (w.0, (agreed_number_lem t u, (agreed_case_lem S t u w.1.1.0, w.1.1.1)))
