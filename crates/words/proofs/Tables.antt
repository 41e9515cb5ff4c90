-- A code's table of places holds the texts of a table of words: one test that antt computes over the whole table, and one law for an entry.
-- Place 0 is the empty text, and past a table's end both have it.
-- Assumes nothing.
use Prim.Native.Nat.{ℕ, zero, suc}
use Prim.Native.String.{String}
use mathlib.Core.Path.{◌≡◌, refl}
use mathlib.Core.Bool.{Bool, true, false, ◌&&◌}
use mathlib.Core.List.{List, [], ◌∷◌}
use lib.ListN.{get_or}
use Rattle.tables.proofs.Tests.{clash_of, both_hold}
use Rattle.base.specs.Same.{same_text}
use Rattle.base.specs.Utf8.{utf8, form1, form2, form3}
use Rattle.base.proofs.Same.{same_is}
use Rattle.words.specs.Part.{part}

module _ (pool : List ℕ) where
  -- the places have the texts of a list, of a list of lists, and of one more
  abbrev pub holds1 : List ℕ → List String → Bool
  holds1 [] [] = true
  holds1 [] (w ∷ ws) = false
  holds1 (p ∷ ps) [] = false
  holds1 (p ∷ ps) (w ∷ ws) = same_text (part pool p) (utf8 w) && holds1 ps ws

  abbrev pub holds2 : List (List ℕ) → List (List String) → Bool
  holds2 [] [] = true
  holds2 [] (w ∷ ws) = false
  holds2 (p ∷ ps) [] = false
  holds2 (p ∷ ps) (w ∷ ws) = holds1 p w && holds2 ps ws

  abbrev pub holds3 : List (List (List ℕ)) → List (List (List String)) → Bool
  holds3 [] [] = true
  holds3 [] (w ∷ ws) = false
  holds3 (p ∷ ps) [] = false
  holds3 (p ∷ ps) (w ∷ ws) = holds2 p w && holds3 ps ws

  none : part pool 0 ≡ utf8 ""
  unfolding part
  none = refl

  -- so each place has its text
  pub at1 : (ps : List ℕ) (ws : List String) → holds1 ps ws ≡ true → (i : ℕ) → part pool (get_or ps i 0) ≡ form1 ws i
  unfolding form1
  at1 [] [] t i = none
  at1 [] (w ∷ ws) t i = clash_of t
  at1 (p ∷ ps) [] t i = clash_of t
  at1 (p ∷ ps) (w ∷ ws) t zero = same_is (part pool p) (utf8 w) (both_hold (same_text (part pool p) (utf8 w)) (holds1 ps ws) t).0
  at1 (p ∷ ps) (w ∷ ws) t (suc i) = at1 ps ws (both_hold (same_text (part pool p) (utf8 w)) (holds1 ps ws) t).1 i

  pub at2 : (ps : List (List ℕ)) (ws : List (List String)) → holds2 ps ws ≡ true → (i j : ℕ) → part pool (get_or (get_or ps i []) j 0) ≡ form2 ws i j
  unfolding form2 form1
  at2 [] [] t i j = none
  at2 [] (w ∷ ws) t i j = clash_of t
  at2 (p ∷ ps) [] t i j = clash_of t
  at2 (p ∷ ps) (w ∷ ws) t zero j = at1 p w (both_hold (holds1 p w) (holds2 ps ws) t).0 j
  at2 (p ∷ ps) (w ∷ ws) t (suc i) j = at2 ps ws (both_hold (holds1 p w) (holds2 ps ws) t).1 i j

  pub at3 : (ps : List (List (List ℕ))) (ws : List (List (List String))) → holds3 ps ws ≡ true → (i j k : ℕ)
      → part pool (get_or (get_or (get_or ps i []) j []) k 0) ≡ form3 ws i j k
  unfolding form3 form2
  at3 [] [] t i j k = none
  at3 [] (w ∷ ws) t i j k = clash_of t
  at3 (p ∷ ps) [] t i j k = clash_of t
  at3 (p ∷ ps) (w ∷ ws) t zero j k = at2 p w (both_hold (holds2 p w) (holds3 ps ws) t).0 j k
  at3 (p ∷ ps) (w ∷ ws) t (suc i) j k = at3 ps ws (both_hold (holds2 p w) (holds3 ps ws) t).1 i j k
