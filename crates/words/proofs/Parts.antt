-- A text's part of a pool, as the code cuts it out.
-- Assumes nothing.
use Rattle.std.proofs.Common.{◌≡◌, ℕ, ◌+◌, ◌-◌, ◌*◌, ◌/◌, ◌%◌, ◌<◌, min, List, length, take, drop, sym, ap, ◌∙◌, arith, take_all}
use Rattle.std.proofs.lemmas.List.{length-take, length-drop, drop_min}
use Rattle.words.specs.Part.{part}

pub part_short : (pool : List ℕ) (p : ℕ) → length (part pool p) < 40
unfolding part
part_short pool p = rw (length-take (p % 40) (drop (2 * (p / 40)) pool)) (omega arith)

-- all of it is there
pub inside : (pool : List ℕ) (p : ℕ) → take (2 * (p / 40) + p % 40 - 2 * (p / 40)) (drop (2 * (p / 40)) pool) ≡ part pool p
unfolding part
inside pool p = ap (λ (n : ℕ). take n (drop (2 * (p / 40)) pool)) (omega arith)

-- it ends with the pool, or lies behind it
pub cut : (pool : List ℕ) (p a : ℕ) → a ≡ min (2 * (p / 40)) (length pool) → length pool < 2 * (p / 40) + p % 40 → take (length pool - a) (drop a pool) ≡ part pool p
unfolding part
cut pool p a f h =
    take_all (length pool - a) (drop a pool) (omega (arith, length-drop {A = ℕ})) ∙ rw f (drop_min (2 * (p / 40)) pool)
    ∙ sym (take_all (p % 40) (drop (2 * (p / 40)) pool) (omega (arith, length-drop {A = ℕ})))
