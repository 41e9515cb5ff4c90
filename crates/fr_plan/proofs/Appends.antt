-- Laws of `Appended`, with which a planner's contract follows from those of the planners that it calls.
-- Assumes nothing.
use Prim.Native.Nat.{ℕ, zero, suc, ◌+◌, ◌*◌, ◌/◌, ◌%◌, ◌<◌, ◌≤◌}
use mathlib.Core.Path.{◌≡◌, refl, sym, ap, ◌∙◌}
use mathlib.Core.List.{List, [], ◌∷◌, ◌++◌, append-nil, append_assoc, map-append}
use native.Mathlib.Omega.{arith}
use lib.ListN.{length, length-append}
use Rattle.base.specs.Join.{Word, spaced_by, joined_by}
use Rattle.words.specs.Part.{part}
use Rattle.plan.specs.Phrase.{gap, following, phrase_of}
use Rattle.plan.specs.Plan.{piece_of, pieces}
use Rattle.plan.proofs.Laws.{following_append}
use Rattle.fr.specs.Pool.{fr_pool}
use Rattle.fr.specs.Placed.{Known}
use Rattle.fr_plan.specs.Appended.{AllKnown, Opens, Appended}

pieces_append : (cs ds : List ℕ) → following (pieces fr_pool (cs ++ ds)) ≡ following (pieces fr_pool cs) ++ following (pieces fr_pool ds)
unfolding pieces
pieces_append cs ds = rw (map-append) (following_append (pieces fr_pool cs) (pieces fr_pool ds))

-- one piece: its bytes, its place and its separator
module _ (s place : ℕ) (h : s < 256) where
  piece : following (pieces fr_pool ((place * 256 + s) ∷ [])) ≡ gap s ++ part fr_pool place
  unfolding following pieces piece_of
  piece =
      let p : (place * 256 + s) % 256 ≡ s = omega arith in
      let q : (place * 256 + s) / 256 ≡ place = omega arith in
      rw (p, q, append-nil) refl

  code_known : Known place → Known ((place * 256 + s) / 256)
  code_known k = let q : (place * 256 + s) / 256 ≡ place = omega arith in rw q k

  code_opens : 0 < s → (place * 256 + s) % 256 ≡ 0 → ⊥
  code_opens z e = omega arith

gap_some : (s : ℕ) (w : Word) → 0 < s → gap s ++ w ≡ s ∷ w
gap_some zero w h = absurd (omega arith)
gap_some (suc s) w h = refl

-- nothing is appended
pub nothing : (k : ℕ) (xs : List ℕ) → Appended k xs xs []
unfolding following pieces
nothing k xs = record { codes = []; near = omega arith; more = sym (append-nil xs); known = tt; opens = tt; speaks = refl }

known_append : (cs ds : List ℕ) → AllKnown cs → AllKnown ds → AllKnown (cs ++ ds)
known_append [] ds k l = l
known_append (c ∷ cs) ds k l = (k.0, known_append cs ds k.1 l)

opens_append : (cs ds : List ℕ) → Opens cs → Opens ds → Opens (cs ++ ds)
opens_append [] ds k l = l
opens_append (c ∷ cs) ds k l = k

-- one after the other, in room for both
pub after : {j k : ℕ} {xs ys zs a b : List ℕ} (i : ℕ) → Appended j xs ys a → Appended k ys zs b → j + k ≤ i → Appended i xs zs (a ++ b)
after {xs = xs} i p q h = record {
  codes = p.codes ++ q.codes;
  near = omega (arith, p.near, q.near);
  more = q.more ∙ ap (λ (l : List ℕ). l ++ q.codes) p.more ∙ append_assoc xs p.codes q.codes;
  known = known_append p.codes q.codes p.known q.known;
  opens = opens_append p.codes q.codes p.opens q.opens;
  speaks = rw (pieces_append p.codes q.codes, p.speaks, q.speaks) refl;
}

-- the same bytes, in more room
pub likewise : {k : ℕ} {xs ys a b : List ℕ} (i : ℕ) → Appended k xs ys a → k ≤ i → a ≡ b → Appended i xs ys b
likewise i p h e = record {
  codes = p.codes;
  near = omega (arith, p.near);
  more = p.more;
  known = p.known;
  opens = p.opens;
  speaks = p.speaks ∙ e;
}

-- a word behind a separator
pub one_word : {xs ys : List ℕ} (s place : ℕ) → ys ≡ xs ++ (place * 256 + s) ∷ [] → s < 256 → 0 < s → Known place → Appended 1 xs ys (s ∷ part fr_pool place)
one_word {xs = xs} s place e h z k = record {
  codes = (place * 256 + s) ∷ [];
  near = rw (e, length-append) (omega arith);
  more = e;
  known = (code_known s place h k, tt);
  opens = code_opens s place h z;
  speaks = piece s place h ∙ gap_some s (part fr_pool place) z;
}

-- by its text
pub as_word : {k j : ℕ} {xs ys v w : List ℕ} → Appended k xs ys (j ∷ v) → v ≡ w → Appended k xs ys (j ∷ w)
as_word a e = rw (← e) a

-- the phrase of a plan from its beginning
phrase_is : (j : ℕ) (cs : List ℕ) (ws : List Word) → Opens cs → following (pieces fr_pool cs) ≡ spaced_by j ws → phrase_of (pieces fr_pool cs) ≡ joined_by j ws
unfolding following phrase_of pieces piece_of
phrase_is j [] [] o e = refl
phrase_is j [] (w ∷ ws) o e = let z : ◌≡◌ {A = ℕ} 0 (suc (length (w ++ spaced_by j ws))) = ap length e in absurd (omega arith)
phrase_is j (c ∷ cs) ws o e = go (c % 256) o ws e
  where
    go : (s : ℕ) → (s ≡ 0 → ⊥) → (ws : List Word) → (gap s ++ part fr_pool (c / 256)) ++ following (pieces fr_pool cs) ≡ spaced_by j ws
        → part fr_pool (c / 256) ++ following (pieces fr_pool cs) ≡ joined_by j ws
    go zero o ws e = absurd (o refl)
    go (suc s) o [] e = let z : ◌≡◌ {A = ℕ} (suc (length (part fr_pool (c / 256) ++ following (pieces fr_pool cs)))) 0 = ap length e in absurd (omega arith)
    go (suc s) o (w ∷ ws) e = cc

pub whole_phrase : {k : ℕ} {ys : List ℕ} (j : ℕ) (ws : List Word) → Appended k [] ys (spaced_by j ws) → phrase_of (pieces fr_pool ys) ≡ joined_by j ws
whole_phrase j ws t = ap (λ (l : List ℕ). phrase_of (pieces fr_pool l)) t.more ∙ phrase_is j t.codes ws t.opens t.speaks
