-- The words that spaces divide a text into: how many there are, and texts none of whose words is empty.
-- Assumes nothing.
use Prim.Native.Nat.{ℕ, suc, ◌<◌}
use Prim.Native.String.{String}
use mathlib.Core.Path.{◌≡◌, refl}
use mathlib.Core.Bool.{Bool, true, false, cond, not, ◌&&◌, ◌||◌}
use mathlib.Core.List.{List, [], ◌∷◌, ◌++◌, flatten}
use native.Mathlib.Omega.{arith}
use lib.Dec.{eqb}
use lib.ListN.{length, length-append}
use Rattle.tables.proofs.Tests.{clash_of, both_hold, all, all_at}
use Rattle.base.specs.Signs.{space}
use Rattle.base.specs.Utf8.{form1, form2, form3}
use Rattle.base.specs.Join.{Word, spaced_by, joined_by}
use Rattle.base.specs.Divide.{to_first, divided, NoneEmpty}
use Rattle.base.specs.Measure.{spaces}

-- a text has one word more than spaces
pub words_count : (s : List ℕ) → length (divided space s) ≡ suc (spaces s)
unfolding divided spaces
words_count [] = refl
words_count (b ∷ s) = go (eqb b space) (divided space s) (words_count s)
  where
    go : (t : Bool) (ls : List (List ℕ)) → length ls ≡ suc (spaces s)
        → length (cond t ([] ∷ ls) (to_first b ls)) ≡ suc (cond t (suc (spaces s)) (spaces s))
    go true ls e = omega arith
    go false [] e = absurd (omega arith)
    go false (l ∷ ls) e = e

-- whether no space stands first, last or behind another, and there is a byte; where a word has begun before the text, a space may stand first, and no byte
-- has to
abbrev pub solid? : Bool → List ℕ → Bool
solid? begun [] = begun
solid? begun (b ∷ s) = (begun || not (eqb b space)) && solid? (not (eqb b space)) s

-- the same as a statement
pub record Runs (begun : Bool) (t : List ℕ) : Type 0 where
  pub test : solid? begun t ≡ true

pub tested : {begun : Bool} {t : List ℕ} → solid? begun t ≡ true → Runs begun t
tested e = record { test = e }

-- a text none of whose words is empty; and one that may stand behind it
abbrev pub Solid : List ℕ → Type 0
Solid t = Runs false t

abbrev pub Trails : List ℕ → Type 0
Trails t = Runs true t

-- its first byte, and the others
pub first_runs : {begun : Bool} {b : ℕ} {s : List ℕ} → Runs begun (b ∷ s) → ((begun || not (eqb b space)) ≡ true) × Runs (not (eqb b space)) s
first_runs {begun} {b} {s} h =
    let p = both_hold (begun || not (eqb b space)) (solid? (not (eqb b space)) s) h.test in
    (p.0, tested p.1)

pub next_runs : {begun : Bool} {b : ℕ} {s : List ℕ} → (begun || not (eqb b space)) ≡ true → Runs (not (eqb b space)) s → Runs begun (b ∷ s)
next_runs e h = tested (rw e h.test)

-- the parts of a solid text are some
some_more : (b : ℕ) (ls : List (List ℕ)) → NoneEmpty ls → NoneEmpty (to_first b ls)
some_more b [] p = (omega arith, tt)
some_more b (l ∷ ls) p = (omega arith, p.1)

abbrev PartsNotEmpty : List ℕ → Type 0
PartsNotEmpty t = (Solid t → NoneEmpty (divided space t)) × ((b : ℕ) → Trails t → NoneEmpty (to_first b (divided space t)))

parts_some : (t : List ℕ) → PartsNotEmpty t
unfolding divided
parts_some [] = (λ h. clash_of h.test, λ b h. (omega arith, tt))
parts_some (c ∷ s) = go (eqb c space) refl (parts_some s)
  where
    go : (d : Bool) → eqb c space ≡ d → PartsNotEmpty s → PartsNotEmpty (c ∷ s)
    go true e p = rw e (λ h. clash_of (rw e at h.test), λ b h. (omega arith, p.0 (rw e at (first_runs h).1)))
    go false e p = rw e (λ h. p.1 c (rw e at (first_runs h).1), λ b h. some_more b (to_first c (divided space s)) (p.1 c (rw e at (first_runs h).1)))

pub solid_parts : {t : List ℕ} → Solid t → NoneEmpty (divided space t)
solid_parts {t} h = (parts_some t).0 h

pub solid_some : {t : List ℕ} → Solid t → 0 < length t
solid_some {t = []} h = clash_of h.test
solid_some {t = b ∷ s} h = omega arith

-- one text behind another
pub ends : {t : List ℕ} → Solid t → Trails t
ends {t = []} h = clash_of h.test
ends {t = b ∷ s} h = next_runs refl (first_runs h).1

pub followed : {begun : Bool} {a b : List ℕ} → Runs begun a → Trails b → Runs begun (a ++ b)
followed {begun = true} {a = []} p q = q
followed {begun = false} {a = []} p q = clash_of p.test
followed {begun = begun} {a = c ∷ a} {b = b} p q = let r = first_runs p in next_runs r.0 (followed {begun = not (eqb c space)} {a = a} {b = b} r.1 q)

-- and behind a joiner, a space or another byte
pub behind : (j : ℕ) {t : List ℕ} → Solid t → Trails (j ∷ t)
behind j {t} h = next_runs refl (go (eqb j space))
  where
    go : (d : Bool) → Runs (not d) t
    go true = h
    go false = ends h

-- words that are all solid; and some that are
abbrev pub Solids : List Word → Type 0
Solids [] = Unit
Solids (w ∷ ws) = Solid w × Solids ws

abbrev pub SomeSolid : List Word → Type 0
SomeSolid ws = (0 < length ws) × Solids ws

pub one_solid : {w : Word} → Solid w → SomeSolid (w ∷ [])
one_solid p = (omega arith, (p, tt))

pub solids_append : (us ws : List Word) → Solids us → Solids ws → Solids (us ++ ws)
solids_append [] ws p q = q
solids_append (u ∷ us) ws p q = (p.0, solids_append us ws p.1 q)

pub some_append : (us ws : List Word) → Solids us → SomeSolid ws → SomeSolid (us ++ ws)
some_append us ws p q = (rw (length-append us ws) (omega arith), solids_append us ws p q.1)

-- joined, and run together
module _ (j : ℕ) where
  spaced_ends : (ws : List Word) → Solids ws → Trails (spaced_by j ws)
  spaced_ends [] p = tested refl
  spaced_ends (w ∷ ws) p = behind j (followed p.0 (spaced_ends ws p.1))

  pub joined_solid : (ws : List Word) → SomeSolid ws → Solid (joined_by j ws)
  joined_solid [] p = absurd (omega arith)
  joined_solid (w ∷ ws) p = followed p.1.0 (spaced_ends ws p.1.1)

pub flat_solid : (us ws : List Word) → Solids us → Solid (flatten ws) → Solid (flatten (us ++ ws))
unfolding flatten
flat_solid [] ws p q = q
flat_solid (u ∷ us) ws p q = followed p.0 (ends (flat_solid us ws p.1 q))

-- one of two, whatever chooses it
pub either : {A : Type 0} (P : A → Type 0) (t : Bool) {x y : A} → (t ≡ true → P x) → (t ≡ false → P y) → P (cond t x y)
either P true p q = p refl
either P false p q = q refl

-- the texts of a table with indices below bounds: a test that antt computes, and what it tells of one of them
below : (n : ℕ) (f : ℕ → Bool) → all 0 n f ≡ true → (i : ℕ) → i < n → f i ≡ true
below n f e i h = all_at 0 n f e i (omega arith) (omega arith)

module _ {begun : Bool} where
  pub at1 : (l : ℕ) (t : List String) → all 0 l (λ i. solid? begun (form1 t i)) ≡ true → (i : ℕ) → i < l → Runs begun (form1 t i)
  at1 l t e i h = tested (below l _ e i h)

  pub at2 : (l m : ℕ) (t : List (List String)) → all 0 l (λ i. all 0 m (λ j. solid? begun (form2 t i j))) ≡ true → (i j : ℕ) → i < l → j < m
      → Runs begun (form2 t i j)
  at2 l m t e i j h k = tested (below m _ (below l _ e i h) j k)

  pub at3 : (l m n : ℕ) (t : List (List (List String))) → all 0 l (λ i. all 0 m (λ j. all 0 n (λ k. solid? begun (form3 t i j k)))) ≡ true
      → (i j k : ℕ) → i < l → j < m → k < n → Runs begun (form3 t i j k)
  at3 l m n t e i j k p q r = tested (below n _ (below m _ (below l _ e i p) j q) k r)
