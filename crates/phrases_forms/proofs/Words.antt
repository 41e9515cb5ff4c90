-- Laws of a line's words: names, and runs.
-- Assumes nothing.
use Prim.Native.Nat.{ℕ, suc}
use mathlib.Core.Path.{◌≡◌, refl, ap, ◌∙◌}
use mathlib.Core.Bool.{Bool, true, false, not, ◌&&◌}
use mathlib.Core.List.{List, [], ◌∷◌}
use native.Mathlib.Omega.{arith}
use lib.Dec.{eqb}
use lib.ListN.{length, get_or}
use Rattle.std.specs.List.{list_all}
use Rattle.std.proofs.lemmas.Grind.{common_steps}
use Rattle.base.specs.Same.{same_text}
use Rattle.phrases_forms.specs.Line.{free}

-- a name is known by its length and its bytes
abbrev pub bytes_at : List ℕ → List ℕ → ℕ → Bool
bytes_at [] s i = true
bytes_at (b ∷ w) s i = eqb (get_or s i 0) b && bytes_at w s (suc i)

bytes_on : (w s : List ℕ) (c i : ℕ) → bytes_at w (c ∷ s) (suc i) ≡ bytes_at w s i
bytes_on [] s c i = refl
bytes_on (b ∷ w) s c i = ap (λ (t : Bool). eqb (get_or s i 0) b && t) (bytes_on w s c (suc i))

eqb_sym : (a b : ℕ) → eqb a b ≡ eqb b a
eqb_sym a b = grind (arith, common_steps)

eqb_suc : (a b : ℕ) → eqb (suc a) (suc b) ≡ eqb a b
eqb_suc a b = grind (arith, common_steps)

and_swap : (a b c : Bool) → (a && (b && c)) ≡ (b && (a && c))
and_swap true b c = refl
and_swap false true c = refl
and_swap false false c = refl

pub name_is : (w s : List ℕ) → same_text w s ≡ (eqb (length s) (length w) && bytes_at w s 0)
name_is [] [] = refl
name_is [] (c ∷ s) = grind (arith, common_steps)
name_is (b ∷ w) [] = grind (arith, common_steps)
name_is (b ∷ w) (c ∷ s) =
    ap (λ (t : Bool). eqb b c && t) (name_is w s)
    ∙ and_swap (eqb b c) (eqb (length s) (length w)) (bytes_at w s 0)
    ∙ rw (eqb_sym b c, ← eqb_suc (length s) (length w), ← bytes_on w s c 0) refl

-- bytes that are free
abbrev pub free_byte : ℕ → Bool
free_byte b = not (eqb b 32) && (not (eqb b 40) && not (eqb b 41))

pub all_free : (s : List ℕ) → list_all free_byte s ≡ free s
all_free [] = refl
all_free (b ∷ s) = ap (λ (t : Bool). free_byte b && t) (all_free s)
