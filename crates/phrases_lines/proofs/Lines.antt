-- Laws of the lines of an input: one byte more, and a line that is too long.
-- Assumes nothing.
use Prim.Native.Nat.{ℕ, ◌<◌, ◌≤◌}
use mathlib.Core.Path.{◌≡◌, refl, sym, ap, ◌∙◌}
use mathlib.Core.Bool.{Bool, true, false, not, ◌&&◌}
use mathlib.Core.List.{List, [], ◌∷◌, ◌++◌, append-nil}
use native.Mathlib.Omega.{arith}
use borrow.Author.Tests.{ne_eqb, lt-leb}
use lib.Dec.{eqb}
use lib.ListN.{length, length-append}
use Rattle.std.proofs.lemmas.Grind.{common_steps}
use Rattle.tables.proofs.Tests.{clash_of as clash}
use Rattle.base.specs.Divide.{to_first, divided}
use Rattle.phrases_answers.specs.Answers.{answer_line, bad_line}
use Rattle.phrases_lines.specs.Program.{parts, last_answer, answers, program}
use Rattle.phrases_lines.specs.Held.{is_line}

-- a line's bytes put before the first line
before : List ℕ → List (List ℕ) → List (List ℕ)
before [] ls = ls
before (b ∷ p) ls = to_first b (before p ls)

-- the first byte of a line, and the others
line_parts : (b : ℕ) (p : List ℕ) → is_line (b ∷ p) ≡ true → (eqb b 10 ≡ false) × (is_line p ≡ true)
unfolding is_line
line_parts b p e = go (eqb b 10) refl e
  where
    go : (t : Bool) → eqb b 10 ≡ t → (not t && is_line p) ≡ true → (eqb b 10 ≡ false) × (is_line p ≡ true)
    go true q r = clash r
    go false q r = (q, r)

parts_before : (p rest : List ℕ) → is_line p ≡ true → parts (p ++ rest) ≡ before p (parts rest)
unfolding divided before
parts_before [] rest e = refl
parts_before (b ∷ p) rest e = let f = line_parts b p e in rw f.0 (ap (to_first b) (parts_before p rest f.1))

before_cons : (p l : List ℕ) (ls : List (List ℕ)) → before p (l ∷ ls) ≡ (p ++ l) ∷ ls
unfolding before
before_cons [] l ls = refl
before_cons (b ∷ p) l ls = ap (to_first b) (before_cons p l ls)

-- the parts of any input begin with a line
record Some (s : List ℕ) : Type 0 where
  head : List ℕ
  more : List (List ℕ)
  is : parts s ≡ head ∷ more

some : (s : List ℕ) → Some s
unfolding divided
some [] = record { head = []; more = []; is = refl }
some (b ∷ s) = go (eqb b 10) refl (some s)
  where
    go : (t : Bool) → eqb b 10 ≡ t → Some s → Some (b ∷ s)
    go true e r = record { head = []; more = parts s; is = rw e refl }
    go false e r = record { head = b ∷ r.head; more = r.more; is = rw (e, r.is) refl }

-- a line's end
pub line_ends : (p rest : List ℕ) → is_line p ≡ true → program (p ++ (10 ∷ rest)) ≡ answer_line p ++ program rest
unfolding program divided answers
line_ends p rest e =
    let r = some rest in
    let q : parts (p ++ (10 ∷ rest)) ≡ p ∷ (r.head ∷ r.more) = parts_before p (10 ∷ rest) e ∙ before_cons p [] (parts rest) ∙ rw (append-nil p, r.is) refl in
    ap answers q ∙ rw r.is refl

-- of a line that is too long a byte more makes no difference
too_long : (p l : List ℕ) → 513 ≤ length p → answer_line (p ++ l) ≡ bad_line
unfolding answer_line
too_long p l h = rw (lt-leb (length (p ++ l)) 512 (rw length-append (omega arith))) refl

answers_same : (k l : List ℕ) (ls : List (List ℕ)) → answer_line k ≡ answer_line l → 0 < length k → 0 < length l → answers (k ∷ ls) ≡ answers (l ∷ ls)
unfolding answers
answers_same [] l ls e h i = absurd (omega arith)
answers_same (a ∷ k) [] ls e h i = absurd (omega arith)
answers_same (a ∷ k) (b ∷ l) [] e h i = e
answers_same (a ∷ k) (b ∷ l) (m ∷ ls) e h i = ap (λ (x : List ℕ). x ++ answers (m ∷ ls)) e

pub goes_on : (p : List ℕ) (b : ℕ) (rest : List ℕ) → is_line p ≡ true → (b ≡ 10 → ⊥) → 513 ≤ length p → program (p ++ (b ∷ rest)) ≡ program (p ++ rest)
unfolding program divided
goes_on p b rest e z h =
    let r = some rest in
    let q : parts (p ++ (b ∷ rest)) ≡ (p ++ (b ∷ r.head)) ∷ r.more = parts_before p (b ∷ rest) e ∙ rw (ne_eqb b 10 z, r.is) (before_cons p (b ∷ r.head) r.more) in
    let s : parts (p ++ rest) ≡ (p ++ r.head) ∷ r.more = parts_before p rest e ∙ rw r.is (before_cons p r.head r.more) in
    ap answers q
    ∙ answers_same (p ++ (b ∷ r.head)) (p ++ r.head) r.more (too_long p (b ∷ r.head) h ∙ sym (too_long p r.head h)) (rw length-append (omega arith)) (rw length-append (omega arith))
    ∙ ap answers (sym s)

-- a byte joins a line
pub line_on : (p : List ℕ) (b : ℕ) → is_line p ≡ true → (b ≡ 10 → ⊥) → is_line (p ++ (b ∷ [])) ≡ true
unfolding is_line
line_on [] b e z = rw (ne_eqb b 10 z) refl
line_on (c ∷ p) b e z = let f = line_parts c p e in rw f.0 (line_on p b f.1 z)

-- a line alone
pub alone : (p : List ℕ) → is_line p ≡ true → program p ≡ last_answer p
unfolding program divided answers
alone p e =
    let q : parts p ≡ p ∷ [] = ap parts (sym (append-nil p)) ∙ parts_before p [] e ∙ before_cons p [] [] ∙ ap (λ (l : List ℕ). l ∷ []) (append-nil p) in
    ap answers q

pub no_line : (p : List ℕ) → length p ≡ 0 → program p ≡ []
unfolding program divided answers
no_line [] e = refl
no_line (b ∷ p) e = absurd (omega arith)

pub one_line : (p : List ℕ) → is_line p ≡ true → (length p ≡ 0 → ⊥) → program p ≡ answer_line p
one_line [] e z = absurd (z refl)
one_line (b ∷ p) e z = alone (b ∷ p) e

-- what the tactics know of a line alone
pub ruleset alone_laws = (common_steps, no_line, one_line)
