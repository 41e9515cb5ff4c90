-- A phrase's words told apart again: the meanings of a phrase are those of its words, one after the other; with an ordinal's ending they are the same.
-- Assumes nothing.
use Prim.Native.Nat.{ℕ, ◌<◌}
use mathlib.Core.Path.{◌≡◌, refl, sym, ap, ◌∙◌}
use mathlib.Core.Bool.{Bool, true, false, cond, not}
use mathlib.Core.List.{List, [], ◌∷◌, ◌++◌, append-nil, append_assoc, map, map-append}
use native.Mathlib.Omega.{arith}
use borrow.Author.Tests.{not-true}
use lib.ListN.{length}
use Rattle.tables.proofs.Tests.{clash_of as clash}
use Rattle.base.specs.Join.{Word, spaced_by, joined_by}
use Rattle.tokens.specs.Tokens.{is_gap, split}
use Rattle.base.specs.Divide.{to_first}
use Rattle.tokens.proofs.Words.{split_first}
use Rattle.fr.specs.Rules.{nth, nth_words}
use Rattle.fr_read.specs.Reading.{meant, meanings}

-- the last byte is no gap
abbrev pub closed : Word → Bool
closed [] = false
closed (b ∷ []) = not (is_gap b)
closed (b ∷ c ∷ w) = closed (c ∷ w)

first_in : (b : ℕ) (s : List ℕ) (us : List Word) → 0 < length s → to_first b (split s ++ us) ≡ to_first b (split s) ++ us
first_in b s us h = rw (split_first s h) refl

split_before : (w : Word) (g : ℕ) (r : List ℕ) → closed w ≡ true → is_gap g ≡ true → split (w ++ (g ∷ r)) ≡ split w ++ split r
unfolding split
split_before [] g r h e = clash h
split_before (b ∷ []) g r h e = rw (not-true (is_gap b) h, e) refl
split_before (b ∷ c ∷ w) g r h e = go (is_gap b) (split_before (c ∷ w) g r h e)
  where
    go : (t : Bool) → split ((c ∷ w) ++ (g ∷ r)) ≡ split (c ∷ w) ++ split r
        → cond t ([] ∷ split ((c ∷ w) ++ (g ∷ r))) (to_first b (split ((c ∷ w) ++ (g ∷ r)))) ≡ cond t ([] ∷ split (c ∷ w)) (to_first b (split (c ∷ w))) ++ split r
    go true m = ap (λ (l : List Word). [] ∷ l) m
    go false m = ap (to_first b) m ∙ first_in b (c ∷ w) (split r) (omega arith)

-- the meanings of words, one after the other
abbrev pub sense : List Word → List ℕ
sense [] = []
sense (w ∷ ws) = meanings w ++ sense ws

pub sense_append : (us ws : List Word) → sense (us ++ ws) ≡ sense us ++ sense ws
sense_append [] ws = refl
sense_append (u ∷ us) ws = rw (sense_append us ws) (sym (append_assoc (meanings u) (sense us) (sense ws)))

abbrev pub Closed : List Word → Type 0
Closed [] = Unit {0}
Closed (w ∷ ws) = (closed w ≡ true) × Closed ws

pub meanings_joined : (j : ℕ) (ws : List Word) → is_gap j ≡ true → Closed ws → meanings (joined_by j ws) ≡ sense ws
unfolding meanings split
meanings_joined j [] e h = refl
meanings_joined j (w ∷ []) e h = rw (append-nil w, append-nil (map meant (split w))) refl
meanings_joined j (w ∷ v ∷ ws) e h =
    ap (map meant) (split_before w j (v ++ spaced_by j ws) h.0 e) ∙ map-append meant (split w) (split (v ++ spaced_by j ws))
    ∙ ap (λ (l : List ℕ). map meant (split w) ++ l) (meanings_joined j (v ∷ ws) e h.1)

-- a word that means the same with an ordinal's ending
pub record Sound (w : Word) : Type 0 where
  pub alone : closed w ≡ true
  pub ended : closed (nth w) ≡ true
  pub same : meanings (nth w) ≡ meanings w

abbrev pub Sounds : List Word → Type 0
Sounds [] = Unit {0}
Sounds (w ∷ ws) = Sound w × Sounds ws

pub sounds_append : (us ws : List Word) → Sounds us → Sounds ws → Sounds (us ++ ws)
sounds_append [] ws a b = b
sounds_append (u ∷ us) ws a b = (a.0, sounds_append us ws a.1 b)

pub sounds_closed : (ws : List Word) → Sounds ws → Closed ws
sounds_closed [] s = tt
sounds_closed (w ∷ ws) s = (s.0.alone, sounds_closed ws s.1)

-- the ending goes to the last word
nth_sense : (ws : List Word) → Sounds ws → Closed (nth_words ws) × (sense (nth_words ws) ≡ sense ws)
unfolding nth_words
nth_sense [] s = (tt, refl)
nth_sense (w ∷ []) s = ((s.0.ended, tt), ap (λ (l : List ℕ). l ++ []) s.0.same)
nth_sense (w ∷ v ∷ ws) s =
    let r = nth_sense (v ∷ ws) s.1 in
    ((s.0.alone, r.0), ap (λ (l : List ℕ). meanings w ++ l) r.1)

pub meanings_nth : (j : ℕ) (ws : List Word) → is_gap j ≡ true → Sounds ws → meanings (joined_by j (nth_words ws)) ≡ sense ws
meanings_nth j ws e s =
    let r = nth_sense ws s in
    meanings_joined j (nth_words ws) e r.0 ∙ r.1
