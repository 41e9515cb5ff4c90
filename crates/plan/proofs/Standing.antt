-- Laws of comparing a text with pieces: it stands exactly where it is what the pieces say.
-- Assumes nothing.
use Prim.Native.Nat.{ℕ, suc, ◌+◌, ◌/◌, ◌<◌, ◌≤◌}
use mathlib.Core.Path.{◌≡◌, refl, sym, ap, ◌∙◌}
use mathlib.Core.Bool.{Bool, true, false, cond}
use mathlib.Core.List.{List, [], ◌∷◌, ◌++◌, append-nil}
use native.Mathlib.Omega.{arith}
use native.Mathlib.Numerals.{add-one}
use borrow.Author.Tests.{eq-eqb, ne_eqb}
use lib.Dec.{eqb}
use lib.ListN.{length, get_or, drop, length-append, drop_of_length-le}
use lib.Seq.{drop-append_seam, drop-cons}
use Rattle.std.proofs.Common.{Some, None}
use Rattle.std.proofs.lemmas.Grind.{common_steps}
use Rattle.tables.proofs.Tests.{clash_of as clash}
use Rattle.base.specs.Decides.{Decides}
use Rattle.base.specs.Front.{begins, passed}
use Rattle.base.proofs.Fronts.{begins_is, begins_own, passed_true, passed_false}
use Rattle.words.specs.Part.{part}
use Rattle.plan.specs.Phrase.{Piece, gap, following, phrase_of}
use Rattle.plan.specs.Plan.{piece_of, pieces}
use Rattle.plan.specs.Stands.{is_nil, stands}
use Rattle.plan.proofs.Laws.{from, from_is, none, first_phrase, piece_laws}

-- a front that is passed, or not
pub passed_some : (w s : List ℕ) (n : ℕ) → passed w s ≡ Some n → (begins w s ≡ true) × (n ≡ length w)
unfolding passed
passed_some w s n e = go (begins w s) refl e
  where
    go : (t : Bool) → begins w s ≡ t → cond t (Some (length w)) None ≡ Some n → (t ≡ true) × (n ≡ length w)
    go true q f = (refl, cc)
    go false q f = cc

pub passed_none : (w s : List ℕ) → passed w s ≡ None → begins w s ≡ false
unfolding passed
passed_none w s e = go (begins w s) e
  where
    go : (t : Bool) → cond t (Some (length w)) None ≡ None → t ≡ false
    go true f = cc
    go false f = refl

-- what was passed lies within the text
pub passed_within : (w s : List ℕ) (n : ℕ) → passed w s ≡ Some n → n ≤ length s
passed_within w s n e =
    let p = passed_some w s n e in
    omega (arith, p.1, ap length (begins_is w s p.0), length-append w (drop (length w) s))

-- a front that is longer by a byte
pub longer_none : (a : ℕ) (w s : List ℕ) → length s < 1 → passed (a ∷ w) s ≡ None
longer_none a w [] h = passed_false (a ∷ w) [] refl
longer_none a w (b ∷ s) h = absurd (omega arith)

pub longer_other : (a : ℕ) (w s : List ℕ) → 1 ≤ length s → (get_or s 0 0 ≡ a → ⊥) → passed (a ∷ w) s ≡ None
longer_other a w [] h n = absurd (omega arith)
longer_other a w (b ∷ s) h n = passed_false (a ∷ w) (b ∷ s) (rw (ne_eqb a b (λ e. n (sym e))) refl)

pub longer_same : (a : ℕ) (w s : List ℕ) → 1 ≤ length s → get_or s 0 0 ≡ a → begins (a ∷ w) s ≡ begins w (from 1 s)
longer_same a w [] h e = absurd (omega arith)
longer_same a w (b ∷ s) h e = rw (eq-eqb a b (sym e), from_is 1 (b ∷ s)) refl

pub longer_not : (a : ℕ) (w s : List ℕ) → 1 ≤ length s → get_or s 0 0 ≡ a → passed w (from 1 s) ≡ None → passed (a ∷ w) s ≡ None
longer_not a w s h e f = passed_false (a ∷ w) s (longer_same a w s h e ∙ passed_none w (from 1 s) f)

pub longer_on : (a : ℕ) (w s : List ℕ) (n : ℕ) → 1 ≤ length s → get_or s 0 0 ≡ a → passed w (from 1 s) ≡ Some n → passed (a ∷ w) s ≡ Some (n + 1)
longer_on a w s n h e f =
    let p = passed_some w (from 1 s) n f in
    passed_true (a ∷ w) s (longer_same a w s h e ∙ p.0) ∙ rw (p.1, add-one) refl

-- the same text behind the same front
pub cancel : (w s t : List ℕ) → w ++ s ≡ w ++ t → s ≡ t
cancel w s t e = sym (drop-append_seam w s) ∙ ap (drop (length w)) e ∙ drop-append_seam w t

nil_is : (s : List ℕ) → is_nil s ≡ true → [] ≡ s
nil_is [] e = refl
nil_is (b ∷ s) e = clash e

-- pieces that follow others stand exactly where they are what is said
pub stands_is : (ps : List Piece) (s : List ℕ) → stands ps s ≡ true → following ps ≡ s
unfolding stands following
stands_is [] s e = nil_is s e
stands_is (p ∷ ps) s e = go (begins (gap p.0 ++ p.1) s) refl (stands_is ps (drop (length (gap p.0 ++ p.1)) s)) e
  where
    go : (t : Bool) → begins (gap p.0 ++ p.1) s ≡ t
        → (stands ps (drop (length (gap p.0 ++ p.1)) s) ≡ true → following ps ≡ drop (length (gap p.0 ++ p.1)) s)
        → cond t (stands ps (drop (length (gap p.0 ++ p.1)) s)) false ≡ true → (gap p.0 ++ p.1) ++ following ps ≡ s
    go true q k f = rw (k f) (begins_is (gap p.0 ++ p.1) s q)
    go false q k f = clash f

pub stands_own : (ps : List Piece) → stands ps (following ps) ≡ true
unfolding stands following
stands_own [] = refl
stands_own (p ∷ ps) =
    let w = gap p.0 ++ p.1 in
    rw (begins_own w (following ps), drop-append_seam w (following ps)) (stands_own ps)

-- of plans whose texts are parts of this pool
module _ (pool : List ℕ) where
  -- no pieces are left
  pub stands_end : (xs s : List ℕ) (i : ℕ) → length xs ≤ i → stands (pieces pool (drop i xs)) s ≡ eqb (length s) 0
  unfolding stands pieces
  stands_end xs s i h = rw (drop_of_length-le xs {i = i} h) (go s)
    where
      go : (t : List ℕ) → is_nil t ≡ eqb (length t) 0
      go [] = refl
      go (b ∷ t) = sym (ne_eqb (length (b ∷ t)) 0 (λ e. omega arith))

  -- the piece at i, and those after it
  here : (xs s : List ℕ) (i : ℕ) → i < length xs → stands (pieces pool (drop i xs)) s
      ≡ cond (begins (following (piece_of pool (get_or xs i 0) ∷ [])) s) (stands (pieces pool (drop (suc i) xs)) (drop (length (following (piece_of pool (get_or xs i 0) ∷ []))) s)) false
  unfolding stands pieces following
  here xs s i h = rw (drop-cons xs i 0 h, append-nil) refl

  pub stands_not : (xs s : List ℕ) (i : ℕ) → i < length xs → passed (following (piece_of pool (get_or xs i 0) ∷ [])) s ≡ None → stands (pieces pool (drop i xs)) s ≡ false
  stands_not xs s i h e = rw (here xs s i h, passed_none (following (piece_of pool (get_or xs i 0) ∷ [])) s e) refl

  pub stands_on : (xs s : List ℕ) (i n : ℕ) → i < length xs → passed (following (piece_of pool (get_or xs i 0) ∷ [])) s ≡ Some n
      → stands (pieces pool (drop (i + 1) xs)) (from n s) ≡ stands (pieces pool (drop i xs)) s
  stands_on xs s i n h e =
      let p = passed_some (following (piece_of pool (get_or xs i 0) ∷ [])) s n e in
      sym (here xs s i h ∙ rw (p.0, add-one i, from_is n s, p.1) refl)

  -- no word, and a first word that the text does not begin with, or begins with
  pub none_is : (xs s : List ℕ) → length xs < 1 → Decides (eqb (length s) 0) (phrase_of (pieces pool xs) ≡ s)
  none_is xs [] h = record { holds = λ q. none pool xs h; fails = λ q. clash (sym q) }
  none_is xs (b ∷ s) h = record { holds = λ q. clash (sym (ne_eqb (length (b ∷ s)) 0 (λ e. omega arith)) ∙ q); fails = λ q f. let g : [] ≡ b ∷ s = sym (none pool xs h) ∙ f in absurd (omega (arith, ap length g)) }

  module _ (xs s : List ℕ) (h : 1 ≤ length xs) where
    pub first_not : passed (part pool (get_or xs 0 0 / 256)) s ≡ None → Decides false (phrase_of (pieces pool xs) ≡ s)
    first_not e = record {
      holds = λ q. clash q;
      fails = λ q f.
          let w = part pool (get_or xs 0 0 / 256) in
          let r = following (pieces pool (from 1 xs)) in
          let g : w ++ r ≡ s = sym (first_phrase pool xs h) ∙ f in
          clash (sym (passed_none w s e) ∙ ap (begins w) (sym g) ∙ begins_own w r);
    }

    pub first_on : (n : ℕ) (b : Bool) → passed (part pool (get_or xs 0 0 / 256)) s ≡ Some n → b ≡ stands (pieces pool (from 1 xs)) (from n s) → Decides b (phrase_of (pieces pool xs) ≡ s)
    first_on n b e f =
        let w = part pool (get_or xs 0 0 / 256) in
        let r = following (pieces pool (from 1 xs)) in
        let p = passed_some w s n e in
        let d : b ≡ stands (pieces pool (from 1 xs)) (drop (length w) s) = f ∙ rw (from_is n s, p.1) refl in
        record {
          holds = λ q. first_phrase pool xs h ∙ ap (λ (l : List ℕ). w ++ l) (stands_is (pieces pool (from 1 xs)) (drop (length w) s) (sym d ∙ q)) ∙ begins_is w s p.0;
          fails = λ q g.
              let m : r ≡ drop (length w) s = cancel w r (drop (length w) s) (sym (first_phrase pool xs h) ∙ g ∙ sym (begins_is w s p.0)) in
              clash (sym q ∙ d ∙ ap (stands (pieces pool (from 1 xs))) (sym m) ∙ stands_own (pieces pool (from 1 xs)));
        }

-- what the tactics know of a piece that is passed, and of those after it
pub ruleset pass_laws = (piece_laws, longer_none, longer_other, longer_not, longer_on)

pub ruleset stand_laws = (common_steps, stands_not, stands_on, stands_end, passed_within)
