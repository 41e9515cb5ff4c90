-- The groups of a guess: those of the words before the last, with what the last one says added.
-- Assumes nothing.
use Prim.Native.Nat.{ℕ, ◌+◌, ◌-◌, ◌%◌, ◌<◌, ◌≤◌}
use mathlib.Core.Path.{◌≡◌, refl, ◌∙◌}
use mathlib.Core.Bool.{false}
use mathlib.Core.List.{List, ◌++◌}
use native.Mathlib.Omega.{arith}
use lib.ListN.{length, get_or, take, drop}
use lib.Seq.{get_or-set_other}
use Rattle.std.proofs.lemmas.List.{take_rest}
use Rattle.settings.specs.Settings.{Settings}
use Rattle.figures.specs.Groups.{Groups}
use Rattle.figures.proofs.Laws.Groups.{group_lt}
use Rattle.groups.specs.Highest.{ZeroFrom}
use Rattle.tokens.specs.Tokens.{split}
use Rattle.uk_read.specs.Reading.{sums}
use Rattle.uk_read.proofs.Below.{All, all_made, set_groups, zeros}
use Rattle.uk_ordinal.specs.Ordinal.{flexion}
use Rattle.uk_ordinal_read.specs.LastWord.{last_word, before_last, without}
use Rattle.uk_ordinal_read.specs.Guess.{added, stem_of, ordinal_groups}
use Rattle.uk_ordinal_read.proofs.CountLaws.{Means}

-- groups gs of at most n orders, with a value added at one: they are a text's
pub record Summed (S : Settings) (s gs : List ℕ) (n order value : ℕ) : Type 0 where
  pub fits : get_or gs order 0 + value < 2000
  pub small : Groups (added order value gs)
  pub few : n ≤ 22
  pub placed : order < 22
  pub zeros_from : (m : ℕ) → n ≤ m → order < m → ZeroFrom (added order value gs) m
  pub guess : added order value gs ≡ ordinal_groups S s

-- those of the words before the last, and what the stem of the last says
sums_up : (S : Settings) (s stem gs : List ℕ) (n order value : ℕ) → All (split (before_last s)) gs n → stem ≡ stem_of S s → Means stem order value → Summed S s gs n order value
unfolding ordinal_groups
sums_up S s stem gs n order value a p w = record {
  fits = omega (arith, group_lt gs order a.small (omega (arith, a.size, w.2)), w.3);
  small = set_groups gs order ((get_or gs order 0 + value) % 1000) (omega arith) a.small;
  few = omega (arith, a.few, a.size);
  placed = w.2;
  zeros_from = λ m h l i k. get_or-set_other gs order i ((get_or gs order 0 + value) % 1000) 0 (λ e. omega arith) ∙ a.above i (omega arith);
  guess = rw (a.groups, w.0, w.1, p) refl;
}

-- in the code, which cuts the text s before its last word, at a place of it, and takes so many bytes off that word
pub summed : (S : Settings) (s before stem gs : List ℕ) (at ending n order value : ℕ) → (drop at s ≡ last_word s) × (take (at - 1) s ≡ before_last s) × (at ≤ length s) → before ≡ take (at - 1) s
    → (gs ≡ sums 22 (split before) ++ drop 22 (zeros 22)) × (Groups (zeros 22) → Groups gs) → ZeroFrom (sums 22 (split before)) n × (n ≤ 22)
    → ending ≡ length (flexion S false) → stem ≡ without ending (take (length s - at) (drop at s)) → Means stem order value → Summed S s gs n order value
summed S s before stem gs at ending n order value l b g z e t w =
    sums_up S s stem gs n order value (rw (b, l.1) at (all_made before (zeros 22) gs n refl g.0 g.1 z.0 z.1)) (rw (t, take_rest s at, l.0, e) refl) w
