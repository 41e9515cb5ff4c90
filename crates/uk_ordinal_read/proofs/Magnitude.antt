-- A number made from its groups, the highest first; one of seven groups, whose highest is at most 9, has room in 64 bits.
-- Assumes nothing.
use Prim.Native.Nat.{ℕ, ◌+◌, ◌*◌, ◌^◌, ◌<◌, ◌≤◌}
use mathlib.Core.Path.{◌≡◌, refl, sym, ◌∙◌, ap}
use mathlib.Core.List.{List, [], ◌∷◌, ◌++◌, map, map-append, reverse}
use native.Mathlib.Omega.{arith}
use denote.Ref.{Bor}
use lib.ListN.{length, get_or, take, drop, take-append-drop}
use lib.Seq.{get_or-drop}
use Rattle.std.specs.List.{fold}
use Rattle.std.proofs.lemmas.List.{reverse-append}
use Rattle.std.proofs.lemmas.List.Sums.{fold-append, fold_more}
use Rattle.figures.specs.Groups.{total}
use Rattle.figures.proofs.Laws.Groups.{group_lt}
use Rattle.groups.specs.Highest.{ZeroFrom}
use Rattle.groups.specs.declared.number.Number.{Number}
use Rattle.groups.proofs.Highest.{total_seven, total_none, total_take}

-- a group below others
abbrev pub with_group : ℕ → ℕ → ℕ
with_group higher g = higher * 1000 + g

abbrev pub made : List ℕ → ℕ
made = fold with_group 0

made_more : (gs : List ℕ) (g : ℕ) → made (gs ++ (g ∷ [])) ≡ made gs * 1000 + g
made_more gs g = fold-append with_group 0 gs (g ∷ [])

made_reverse : (gs : List ℕ) → made (reverse gs) ≡ total gs
made_reverse [] = refl
made_reverse (g ∷ gs) = ap made (reverse-append (g ∷ []) gs) ∙ made_more (reverse gs) g ∙ omega (arith, made_reverse gs)

-- what is made of the first groups is not above what is made of all
grows : (higher : ℕ) (gs : List ℕ) → higher ≤ fold with_group higher gs
grows higher [] = omega arith
grows higher (g ∷ gs) = omega (arith, grows (higher * 1000 + g) gs)

made_part : (i : ℕ) (gs : List ℕ) → made (take i gs) ≤ made gs
made_part i gs =
    omega (arith, grows (made (take i gs)) (drop i gs), sym (fold-append with_group 0 (take i gs) (drop i gs)) ∙ ap made (take-append-drop i gs))

-- in the code, which has references to the groups
pub now_more : (gs : List (Bor ℕ)) (g : Bor ℕ) → made (map (λ g. g.now) (gs ++ (g ∷ []))) ≡ made (map (λ g. g.now) gs) * 1000 + g.now
now_more gs g = ap made (map-append (λ (g : Bor ℕ). g.now) gs (g ∷ [])) ∙ made_more (map (λ (g : Bor ℕ). g.now) gs) g.now

module _ (number : Number 22) (r : ZeroFrom number.groups 7 × (get_or number.groups 6 0 ≤ 9)) where
  abbrev gs : List ℕ
  gs = number.groups

  pub made_all : made (reverse (take 7 gs)) ≡ total gs
  made_all = made_reverse (take 7 gs) ∙ total_take gs 7 r.0

  small : total gs < 2 ^ 64
  small =
      let z : total (drop 7 gs) ≡ 0 = total_none (drop 7 gs) (λ i l. get_or-drop 7 gs i 0 ∙ r.0 (7 + i) (omega arith)) in
      let g = λ (i : ℕ) (h : i < 22). group_lt gs i number.small (omega (arith, number.size)) in
      omega (arith, total_seven gs (omega (arith, number.size)), z, r.1, g 0 (omega arith), g 1 (omega arith), g 2 (omega arith), g 3 (omega arith), g 4 (omega arith), g 5 (omega arith))

  -- the group g behind those before it
  pub has_room : (before : List ℕ) (i g : ℕ) → before ≡ take i (reverse (take 7 gs)) → (i < length (reverse (take 7 gs))) × (g ≡ get_or (reverse (take 7 gs)) i g) → made before * 1000 + g < 2 ^ 64
  has_room before i g e t =
      let all = reverse (take 7 gs) in
      let m : made (take (i + 1) all) ≡ made (take i all) * 1000 + get_or all i g = fold_more with_group 0 all i g t.0 in
      rw e (omega (arith, m, t.1, made_part (i + 1) all, made_all, small))
