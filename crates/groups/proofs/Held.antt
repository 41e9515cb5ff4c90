-- The groups of digits, in as many orders as hold them: what the spellers need of a text's groups.
-- Assumes nothing.
use Prim.Native.Nat.{ℕ, ◌+◌, ◌*◌, ◌/◌, ◌≤◌}
use mathlib.Core.Path.{◌≡◌}
use mathlib.Core.Bool.{true}
use mathlib.Core.List.{List}
use native.Mathlib.Omega.{arith}
use lib.ListN.{length}
use Rattle.figures.specs.Groups.{groups_of, total, Groups}
use Rattle.figures.specs.Text.{plain, value, unsigned, well_formed}
use Rattle.figures.proofs.Laws.Groups.{groups_length, groups_below_lem, total_groups, hold}
use Rattle.figures.proofs.Laws.Plain.{plain_digits}
use Rattle.figures.proofs.Laws.Sign.{formed_unsigned}
use Rattle.groups.specs.Highest.{Highest}
use Rattle.groups.proofs.Highest.{counted}

-- gs are the k lowest groups of the digits s, and all of them; n orders hold those that are not 0
pub record Held (k : ℕ) (s gs : List ℕ) (n : ℕ) : Type 0 where
  pub below : Groups gs
  pub size : length gs ≡ k
  pub number : total gs ≡ value s
  pub few : n ≤ k
  pub top : Highest gs n

pub held : (k : ℕ) (s gs : List ℕ) (n : ℕ) → plain s ≡ true → length s ≤ k * 3 → gs ≡ groups_of k (value s) → n ≡ (length s + 2) / 3 → Held k s gs n
held k s gs n p l e c = record {
  below = rw e (groups_below_lem k (value s));
  size = rw e (groups_length k (value s));
  number = rw e (total_groups k (value s) (hold k s (plain_digits s p) l));
  few = omega arith;
  top = rw (e, c) (counted s p k (omega arith));
}

-- the same of a well formed text: s are its digits, behind its sign
pub held_text : (k : ℕ) (text s gs : List ℕ) (n : ℕ) → well_formed text ≡ true → length (unsigned text) ≤ k * 3 → s ≡ unsigned text → gs ≡ groups_of k (value s) → n ≡ (length s + 2) / 3 → Held k (unsigned text) gs n
held_text k text s gs n f l e g c = held k (unsigned text) gs n (formed_unsigned text f) l (rw e at g) (rw e at c)
