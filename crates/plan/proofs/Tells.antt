-- Laws of `Told`, with which a planner's contract follows from those of the planners that it calls; and the one law of phrases:
-- pieces that say words are those words, joined.
-- Assumes nothing.
use Prim.Native.Nat.{ℕ, ◌+◌, ◌*◌, ◌≤◌}
use mathlib.Core.Path.{◌≡◌, refl, sym, ap, ◌∙◌}
use mathlib.Core.List.{List, [], ◌∷◌, ◌++◌, append_assoc}
use native.Mathlib.Omega.{arith}
use Rattle.base.specs.Join.{Word, spaced_by, joined}
use Rattle.base.specs.Signs.{space}
use Rattle.words.specs.Part.{part}
use Rattle.plan.specs.Phrase.{Piece, following, phrase_of}
use Rattle.plan.specs.Plan.{pieces}
use Rattle.plan.specs.Speaks.{Speaks, none, whole, ended, Told}
use Rattle.plan.proofs.Added.{stay, then, same, pushed}

speaks_both : {ps qs : List Piece} {us vs : List Word} → Speaks ps us → Speaks qs vs → Speaks (ps ++ qs) (us ++ vs)
speaks_both none s = s
speaks_both (whole w r) s = whole w (speaks_both r s)
speaks_both (ended w e r) s = ended w e (speaks_both r s)

-- nothing is told
pub quiet : {pool : List ℕ} (k : ℕ) (xs : List ℕ) → Told pool k xs xs []
quiet k xs = record { pieces = []; added = stay k xs; speaks = none }

-- one after the other, in room for both
pub tell : {pool : List ℕ} {j k : ℕ} {xs ys zs : List ℕ} {us vs : List Word} (i : ℕ) → Told pool j xs ys us → Told pool k ys zs vs → j + k ≤ i → Told pool i xs zs (us ++ vs)
tell i a b h = record { pieces = a.pieces ++ b.pieces; added = then i a.added b.added h; speaks = speaks_both a.speaks b.speaks }

-- the same words, in more room
pub retell : {pool : List ℕ} {k : ℕ} {xs ys : List ℕ} {us vs : List Word} (i : ℕ) → Told pool k xs ys us → k ≤ i → us ≡ vs → Told pool i xs ys vs
retell i a h e = rw (← e) (record { pieces = a.pieces; added = same i a.added h refl; speaks = a.speaks })

-- a word of one piece; a word of two
pub told_word : {pool : List ℕ} {xs ys : List ℕ} (place : ℕ) → ys ≡ xs ++ (place * 256 + 32) ∷ [] → Told pool 1 xs ys (part pool place ∷ [])
told_word {pool} place e = record { pieces = (32, part pool place) ∷ []; added = pushed pool place 32 (omega arith) e; speaks = whole (part pool place) none }

pub told_ended : {pool : List ℕ} {xs ys zs : List ℕ} (stem ending : ℕ) → ys ≡ xs ++ (stem * 256 + 32) ∷ [] → zs ≡ ys ++ (ending * 256 + 0) ∷ []
    → Told pool 2 xs zs ((part pool stem ++ part pool ending) ∷ [])
told_ended {pool} stem ending e f = record {
  pieces = (32, part pool stem) ∷ (0, part pool ending) ∷ [];
  added = then 2 (pushed pool stem 32 (omega arith) e) (pushed pool ending 0 (omega arith) f) (omega arith);
  speaks = ended (part pool stem) (part pool ending) none;
}

-- what pieces that say words say after others
pub follows : {ps : List Piece} {ws : List Word} → Speaks ps ws → following ps ≡ spaced_by space ws
unfolding following
follows none = refl
follows (whole w s) = rw (follows s) refl
follows (ended w e {ws = ws} s) = rw (follows s) (ap (λ (l : List ℕ). 32 ∷ l) (sym (append_assoc w e (spaced_by space ws))))

-- pieces that say words say them joined
pub phrase_is : {ps : List Piece} {ws : List Word} → Speaks ps ws → phrase_of ps ≡ joined ws
unfolding phrase_of following
phrase_is none = refl
phrase_is (whole w s) = ap (λ (l : List ℕ). w ++ l) (follows s)
phrase_is (ended w e {ws = ws} s) = rw (follows s) (sym (append_assoc w e (spaced_by space ws)))

-- a plan from its beginning
pub told_phrase : {pool : List ℕ} {k : ℕ} {ys : List ℕ} {ws : List Word} → Told pool k [] ys ws → phrase_of (pieces pool ys) ≡ joined ws
unfolding pieces
told_phrase t = ap phrase_of t.added.more ∙ phrase_is t.speaks
