-- Tests that antt computes over numbers and texts, and what each says at one place.
-- Assumes nothing.
use Prim.Native.Nat.{ℕ, ◌+◌, ◌%◌, ◌<◌, ◌≤◌}
use mathlib.Core.Path.{◌≡◌, refl}
use mathlib.Core.Bool.{Bool, true, false, ◌&&◌}
use mathlib.Core.List.{List, ◌++◌}
use borrow.Author.Tests.{eqb-true, ltb-true}
use lib.Dec.{T, eqb, ltb}
use lib.ListN.{length}
use Rattle.base.specs.Join.{Word}
use Rattle.base.specs.Same.{same_text}
use Rattle.base.specs.Utf8.{utf8}
use Rattle.base.proofs.Same.{same_is}
use Rattle.tables.proofs.Tests.{clash_of, all, all_at as all_true}
use Rattle.words.specs.Part.{part}
use Rattle.fr.specs.Pool.{fr_pool}
use Rattle.fr.specs.Placed.{Known, Placed, Plural}

pub yes_of : (b : Bool) → T b → b ≡ true
yes_of true t = refl
yes_of false t = absurd t

of_yes : (b : Bool) → b ≡ true → T b
of_yes true e = tt
of_yes false e = clash_of e

pub and_left : (a b : Bool) → T (a && b) → T a
and_left true b t = tt
and_left false b t = t

pub and_right : (a b : Bool) → T (a && b) → T b
and_right true b t = t
and_right false b t = absurd t

-- a test of each of the n numbers from lo on, at one of them
pub all_at : (lo n : ℕ) (f : ℕ → Bool) → T (all lo n f) → (i : ℕ) → lo ≤ i → i < lo + n → T (f i)
all_at lo n f t i l h = of_yes (f i) (all_true lo n f (yes_of (all lo n f) t) i l h)

-- the same text
pub same_eq : (w s : List ℕ) → T (same_text w s) → w ≡ s
same_eq w s t = same_is w s (yes_of (same_text w s) t)

-- the place of a text
abbrev known? : ℕ → Bool
known? p = ltb 0 (p % 40) && eqb (length (part fr_pool p)) (p % 40)

known : (p : ℕ) → T (known? p) → Known p
known p t =
    let a = ltb 0 (p % 40) in
    let b = eqb (length (part fr_pool p)) (p % 40) in
    record { some = ltb-true _ _ (yes_of a (and_left a b t)); whole = eqb-true _ _ (yes_of b (and_right a b t)) }

-- the place of this word, and of its plural
abbrev pub placed? : ℕ → Word → Bool
placed? p w = same_text (part fr_pool p) w && known? p

pub placed : (p : ℕ) (w : Word) → T (placed? p w) → Placed p w
placed p w t = record {
  says = same_eq (part fr_pool p) w (and_left (same_text (part fr_pool p) w) (known? p) t);
  known = known p (and_right (same_text (part fr_pool p) w) (known? p) t);
}

abbrev pub plural? : ℕ → Word → Bool
plural? p w = placed? p w && placed? (p + 1) (w ++ utf8 "s")

pub plural : (p : ℕ) (w : Word) → T (plural? p w) → Plural p w
plural p w t = record {
  one = placed p w (and_left (placed? p w) (placed? (p + 1) (w ++ utf8 "s")) t);
  more = placed (p + 1) (w ++ utf8 "s") (and_right (placed? p w) (placed? (p + 1) (w ++ utf8 "s")) t);
}
