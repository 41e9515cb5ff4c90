-- The cases of the cardinals' words as the code's tests have them.
-- Assumes nothing.
use Prim.Native.Nat.{ℕ, zero, suc, ◌/◌, ◌%◌, ◌<◌}
use mathlib.Core.Path.{◌≡◌, refl, sym}
use mathlib.Core.List.{[], ◌∷◌, ◌++◌, append_assoc}
use native.Mathlib.Omega.{arith}
use Rattle.settings.specs.Settings.{Settings}
use Rattle.cardinals.specs.Cardinal.{group_of}
use Rattle.uk.specs.Rules.{DigitWords, opt, low_words}
use Rattle.uk.specs.Ukrainian.{at_order, ukrainian_digits, noun_words, ukrainian_group, ukrainian}

pub low_ten : (W : DigitWords) (t u : ℕ) → 1 < t → (W.ten t ∷ []) ++ opt W.unit u ≡ low_words W t u
low_ten W zero u h = absurd (omega arith)
low_ten W (suc zero) u h = absurd (omega arith)
low_ten W (suc (suc t)) u h = refl

-- the gender of an order does not change the hundreds
pub hundred_at : (S : Settings) (k : ℕ) → (ukrainian_digits (at_order k S)).hundred ≡ (ukrainian_digits S).hundred
unfolding ukrainian_digits
hundred_at S zero = refl
hundred_at S (suc zero) = refl
hundred_at S (suc (suc k)) = refl

pub group_some : (S : Settings) (k g : ℕ) → (g ≡ 0 → ⊥)
    → opt (ukrainian_digits S).hundred (g / 100 % 10) ++ (low_words (ukrainian_digits (at_order k S)) (g / 10 % 10) (g % 10) ++ noun_words S k (g / 10 % 10) (g % 10)) ≡ group_of (ukrainian S) k g
unfolding ukrainian ukrainian_group
group_some S k zero n = absurd (n refl)
group_some S k (suc g) n =
    rw (← hundred_at S k)
    (sym (append_assoc (opt (ukrainian_digits (at_order k S)).hundred (suc g / 100 % 10)) (low_words (ukrainian_digits (at_order k S)) (suc g / 10 % 10) (suc g % 10)) (noun_words S k (suc g / 10 % 10) (suc g % 10))))
