-- An ordinal's plan: the last word's stem and the ending say the cardinal's phrase with the ordinal's ending.
-- Assumes nothing.
use Prim.Native.Nat.{ℕ, ◌+◌, ◌*◌, ◌/◌, ◌%◌, ◌<◌}
use mathlib.Core.Path.{◌≡◌, refl, sym, ap, ◌∙◌}
use mathlib.Core.List.{List, [], ◌∷◌, ◌++◌, append-nil, append_assoc, map, map-append}
use native.Mathlib.Omega.{arith}
use lib.ListN.{length}
use Rattle.base.specs.Utf8.{utf8}
use Rattle.words.specs.Part.{part}
use Rattle.plan.specs.Phrase.{Piece, gap, following, phrase_of}
use Rattle.plan.specs.Plan.{piece_of, pieces}
use Rattle.plan.proofs.Laws.{following_append}
use Rattle.fr.specs.Rules.{without_e, nth}
use Rattle.fr.specs.Pool.{fr_pool}
use Rattle.fr.specs.Placed.{Known}
use Rattle.fr.proofs.Stems.{drop_last}
use Rattle.fr_plan.specs.Appended.{AllKnown, Appended}

-- a phrase's last piece
snoc : (ps : List Piece) (s : ℕ) (w : List ℕ) → phrase_of (ps ++ ((s, w) ∷ [])) ≡ phrase_of (ps ++ ((s, []) ∷ [])) ++ w
unfolding phrase_of following
snoc [] s w = append-nil w
snoc (p ∷ ps) s w =
    rw (following_append ps ((s, w) ∷ []), following_append ps ((s, []) ∷ []))
    (rw (append-nil (gap s ++ w), append-nil (gap s ++ []), append-nil (gap s), append_assoc p.1 (following ps ++ gap s) w, append_assoc (following ps) (gap s) w) refl)

snoc_on : (ps : List Piece) (p : Piece) (w : List ℕ) → phrase_of ((ps ++ (p ∷ [])) ++ ((0, w) ∷ [])) ≡ phrase_of (ps ++ (p ∷ [])) ++ w
unfolding phrase_of following
snoc_on [] p w = rw (append-nil p.1, append-nil w) refl
snoc_on (q ∷ ps) p w =
    rw (following_append (ps ++ (p ∷ [])) ((0, w) ∷ []), append-nil w) (sym (append_assoc q.1 (following (ps ++ (p ∷ []))) w))

pub ending : (ps : List Piece) (s : ℕ) (w : List ℕ) → 0 < length w
    → phrase_of ((ps ++ ((s, without_e w) ∷ [])) ++ ((0, utf8 "ième") ∷ [])) ≡ nth (phrase_of (ps ++ ((s, w) ∷ [])))
unfolding nth
ending ps s w h =
    snoc_on ps (s, without_e w) (utf8 "ième")
    ∙ ap (λ (l : List ℕ). l ++ utf8 "ième") (snoc ps s (without_e w) ∙ sym (drop_last (phrase_of (ps ++ ((s, []) ∷ []))) w h) ∙ ap without_e (sym (snoc ps s w)))

-- a plan's last word
known_last : (cs : List ℕ) (c : ℕ) → AllKnown (cs ++ c ∷ []) → Known (c / 256)
known_last [] c k = k.0
known_last (d ∷ cs) c k = known_last cs c k.1

pub some_codes : {k : ℕ} {ys : List ℕ} (b : List ℕ) → Appended k [] ys b → 0 < length b → 0 < length ys
unfolding following pieces
some_codes {ys = ys} b t h = go ys t.codes t.more t.speaks
  where
    go : (ys cs : List ℕ) → ys ≡ cs → following (pieces fr_pool cs) ≡ b → 0 < length ys
    go (y ∷ ys) cs e f = omega arith
    go [] [] e f = absurd (omega (arith, ap length f))
    go [] (c ∷ cs) e f = absurd (omega (arith, ap length e))

pub last_known : {k : ℕ} {ys b : List ℕ} (xs : List ℕ) (c : ℕ) → Appended k [] ys b → ys ≡ xs ++ c ∷ [] → Known (c / 256)
last_known xs c t e = let f : t.codes ≡ xs ++ c ∷ [] = sym t.more ∙ e in known_last xs c (rw f at t.known)

-- the stem in its place, and the ending behind it
pub ended : (xs : List ℕ) (c stem e : ℕ) → part fr_pool stem ≡ without_e (part fr_pool (c / 256)) → 0 < length (part fr_pool (c / 256)) → part fr_pool e ≡ utf8 "ième"
    → phrase_of (pieces fr_pool ((xs ++ (stem * 256 + c % 256) ∷ []) ++ (e * 256 + 0) ∷ [])) ≡ nth (phrase_of (pieces fr_pool (xs ++ c ∷ [])))
unfolding pieces piece_of
ended xs c stem e d w i =
    let s = c % 256 in
    let x : (stem * 256 + s) % 256 ≡ s = omega arith in
    let y : (stem * 256 + s) / 256 ≡ stem = omega arith in
    let u : (e * 256 + 0) % 256 ≡ 0 = omega arith in
    let v : (e * 256 + 0) / 256 ≡ e = omega arith in
    rw (map-append (piece_of fr_pool) (xs ++ ((stem * 256 + s) ∷ [])) ((e * 256 + 0) ∷ []), map-append (piece_of fr_pool) xs ((stem * 256 + s) ∷ []), x, y, d, u, v, i)
    (ending (map (piece_of fr_pool) xs) s (part fr_pool (c / 256)) w) ∙ ap (λ (l : List Piece). nth (phrase_of l)) (sym (map-append (piece_of fr_pool) xs (c ∷ [])))
