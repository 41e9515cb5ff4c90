-- A text without its final `e`: the part of the pool of one byte less.
-- Assumes nothing.
use Prim.Native.Nat.{ℕ, zero, suc, ◌*◌, ◌-◌, ◌/◌, ◌%◌, ◌<◌}
use mathlib.Core.Path.{◌≡◌, refl, ap}
use mathlib.Core.List.{List, [], ◌∷◌, ◌++◌}
use native.Mathlib.Omega.{arith}
use borrow.Author.Tests.{eq-eqb, ne_eqb}
use lib.ListN.{length, get_or, take, drop}
use lib.Seq.{take-take}
use Rattle.words.specs.Part.{part}
use Rattle.fr.specs.Pool.{fr_pool}
use Rattle.fr.specs.Rules.{without_e}
use Rattle.fr.specs.Placed.{Known}

-- the last byte is `e`, or another
shorter : (w : List ℕ) (n : ℕ) → length w ≡ suc n → get_or w n 0 ≡ 101 → take n w ≡ without_e w
unfolding without_e
shorter [] n h e = absurd (omega arith)
shorter (b ∷ []) zero h e = rw (eq-eqb b 101 e) refl
shorter (b ∷ []) (suc n) h e = absurd (omega arith)
shorter (b ∷ c ∷ w) zero h e = absurd (omega arith)
shorter (b ∷ c ∷ w) (suc n) h e = ap (λ (l : List ℕ). b ∷ l) (shorter (c ∷ w) n (omega arith) e)

longer : (w : List ℕ) (n : ℕ) → length w ≡ suc n → (get_or w n 0 ≡ 101 → ⊥) → w ≡ without_e w
unfolding without_e
longer [] n h f = refl
longer (b ∷ []) zero h f = rw (ne_eqb b 101 f) refl
longer (b ∷ []) (suc n) h f = absurd (omega arith)
longer (b ∷ c ∷ w) zero h f = absurd (omega arith)
longer (b ∷ c ∷ w) (suc n) h f = ap (λ (l : List ℕ). b ∷ l) (longer (c ∷ w) n (omega arith) f)

-- a place of one less
less : (pool : List ℕ) (p : ℕ) → 0 < p % 40 → part pool (p - 1) ≡ take (p % 40 - 1) (part pool p)
unfolding part
less pool p h =
    let m : (p - 1) % 40 ≡ p % 40 - 1 = omega arith in
    let d : (p - 1) / 40 ≡ p / 40 = omega arith in
    rw (m, d, take-take (p % 40 - 1) (p % 40) (drop (2 * (p / 40)) pool) (omega arith)) refl

-- the text at a place, as the code cuts it out
module _ (pool w : List ℕ) (p : ℕ) (l : pool ≡ fr_pool) (c : w ≡ part pool p) (k : Known p) where
  whole : w ≡ part fr_pool p
  whole = rw l at c

  pub stem_some : 0 < length w
  stem_some = omega (arith, k.some, k.whole, ap length whole)

  pub stem_less : get_or w (length w - 1) 0 ≡ 101 → (part fr_pool (p - 1) ≡ without_e (part fr_pool p)) × (0 < length (part fr_pool p))
  stem_less f =
      let s : p % 40 - 1 ≡ length w - 1 = omega (arith, k.whole, ap length whole) in
      rw (less fr_pool p k.some, s, ← whole) (shorter w (length w - 1) (omega (arith, stem_some)) f, stem_some)

  pub stem_same : (get_or w (length w - 1) 0 ≡ 101 → ⊥) → (part fr_pool p ≡ without_e (part fr_pool p)) × (0 < length (part fr_pool p))
  stem_same n = rw (← whole) (longer w (length w - 1) (omega (arith, stem_some)) n, stem_some)

-- a final `e` is the last part's
pub drop_last : (a w : List ℕ) → 0 < length w → without_e (a ++ w) ≡ a ++ without_e w
unfolding without_e
drop_last [] w h = refl
drop_last (b ∷ []) [] h = absurd (omega arith)
drop_last (b ∷ []) (c ∷ w) h = refl
drop_last (b ∷ c ∷ a) w h = ap (λ (l : List ℕ). b ∷ l) (drop_last (c ∷ a) w h)
