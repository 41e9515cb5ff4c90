-- A match over keys: what an arm gives, and what is left past the last.
-- Assumes nothing.
use Prim.Native.Nat.{ℕ}
use mathlib.Core.Path.{◌≡◌, refl}
use mathlib.Core.List.{[], ◌∷◌}
use borrow.Author.Tests.{ne_eqb}
use Rattle.meanings.specs.Lookup.{Entries, lookup}

-- the key is none of the entries', which stand in the reverse order of the arms
abbrev pub Missed : ℕ → Entries → Type 0
Missed key [] = Unit {0}
Missed key (e ∷ es) = Missed key es × (key ≡ e.0 → ⊥)

pub missed : (key : ℕ) (es : Entries) → Missed key es → 0 ≡ lookup key es
unfolding lookup
missed key [] h = refl
missed key (e ∷ es) h = rw (ne_eqb key e.0 h.1) (missed key es h.0)

-- an arm's number is what stands at its key
pub found : {key k v : ℕ} (es : Entries) → key ≡ k → v ≡ lookup k es → v ≡ lookup key es
found es e g = rw e g
