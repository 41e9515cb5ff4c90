-- Texts with a sign in place of each U+02BC: part by part, and so for words joined or run together.
-- Assumes nothing.
use Prim.Native.Nat.{ℕ, zero, suc, ◌+◌, ◌/◌, ◌%◌}
use Prim.Native.String.{String}
use mathlib.Core.Path.{◌≡◌, refl, sym}
use mathlib.Core.Bool.{Bool, true, false, cond, not, ◌&&◌}
use mathlib.Core.List.{List, [], ◌∷◌, ◌++◌, flatten, append-nil, append_assoc}
use native.Mathlib.Omega.{arith}
use borrow.Author.Tests.{not-true, eqb-true, ne_eqb, ltb-true, ltb-false}
use lib.Dec.{eqb, ltb}
use lib.ListN.{get_or}
use Rattle.tables.proofs.Tests.{both_hold}
use Rattle.base.specs.Signs.{space}
use Rattle.base.specs.Utf8.{encode, utf8, form1, form2, form3}
use Rattle.base.specs.Join.{Word, spaced_by, joined}
use Rattle.base.specs.Replaced.{apostrophe_lead, apostrophe_trail, replaced}
use Rattle.base.proofs.Words.{either}

-- the bytes are those of U+02BC
pub apostrophe_bytes : utf8 "ʼ" ≡ apostrophe_lead ∷ apostrophe_trail ∷ []
apostrophe_bytes = refl

-- with a sign for each U+02BC, x is x', whatever follows it
pub record Turns (sign x x' : List ℕ) : Type 0 where
  pub before : (y : List ℕ) → replaced sign (x ++ y) ≡ x' ++ replaced sign y

-- x stays as it is
abbrev pub Stays : List ℕ → List ℕ → Type 0
Stays sign x = Turns sign x x

-- words, each of which turns into another
pub data WordsTurn (sign : List ℕ) : List Word → List Word → Type 0 where
  none : WordsTurn sign [] []
  word : {w w' : Word} {ws ws' : List Word} → Turns sign w w' → WordsTurn sign ws ws' → WordsTurn sign (w ∷ ws) (w' ∷ ws')

-- one of two, whichever is chosen
pub chosen : {A : Type 0} (R : A → A → Type 0) (t : Bool) {x y x' y' : A} → R x x' → R y y' → R (cond t x y) (cond t x' y')
chosen R true p q = p
chosen R false p q = q

-- whether a text has no byte that U+02BC begins with
abbrev pub plain? : List ℕ → Bool
plain? [] = true
plain? (b ∷ s) = not (eqb b apostrophe_lead) && plain? s

-- a test of every entry of a table, and of one of them, or of what stands past its end
abbrev pub every : {A : Type 0} → (A → Bool) → List A → Bool
every f [] = true
every f (x ∷ xs) = f x && every f xs

pub every_at : {A : Type 0} (f : A → Bool) (xs : List A) (d : A) → every f xs ≡ true → f d ≡ true → (i : ℕ) → f (get_or xs i d) ≡ true
every_at f [] d e p i = p
every_at f (x ∷ xs) d e p zero = (both_hold (f x) (every f xs) e).0
every_at f (x ∷ xs) d e p (suc i) = every_at f xs d (both_hold (f x) (every f xs) e).1 p i

abbrev pub plain1? : List String → Bool
plain1? t = every (λ s. plain? (utf8 s)) t

abbrev pub plain2? : List (List String) → Bool
plain2? t = every plain1? t

abbrev pub plain3? : List (List (List String)) → Bool
plain3? t = every plain2? t

module _ {sign : List ℕ} where
  pub turned : {x x' : List ℕ} → Turns sign x x' → x' ≡ replaced sign x
  unfolding replaced
  turned {x} {x'} h = sym (rw (append-nil x, append-nil x') at (h.before []))

  -- one text behind another
  pub nothing : Turns sign [] []
  nothing = record { before = λ y. refl }

  pub followed : {x x' z z' : List ℕ} → Turns sign x x' → Turns sign z z' → Turns sign (x ++ z) (x' ++ z')
  followed {x} {x'} {z} {z'} p q =
      record { before = λ y. rw (append_assoc x z y, append_assoc x' z' (replaced sign y), p.before (z ++ y), q.before y) }

  -- U+02BC; a byte that it does not begin with; two bytes that are not its own
  pub apostrophe : Turns sign (utf8 "ʼ") sign
  unfolding replaced
  apostrophe = record { before = λ y. refl }

  pub other : (b : ℕ) → eqb b apostrophe_lead ≡ false → Stays sign (b ∷ [])
  unfolding replaced
  other b e = record { before = go }
    where
      go : (y : List ℕ) → replaced sign (b ∷ y) ≡ b ∷ replaced sign y
      go [] = refl
      go (c ∷ y) = rw e

  pair : (b c : ℕ) → (b ≡ apostrophe_lead → c ≡ apostrophe_trail → ⊥) → eqb c apostrophe_lead ≡ false → Stays sign (b ∷ c ∷ [])
  unfolding replaced
  pair b c n f = record { before = λ y. rw (go (eqb b apostrophe_lead) refl, (other c f).before y) }
    where
      go : (t : Bool) → eqb b apostrophe_lead ≡ t → (eqb b apostrophe_lead && eqb c apostrophe_trail) ≡ false
      go true e = rw e (ne_eqb c apostrophe_trail (n (eqb-true b apostrophe_lead e)))
      go false e = rw e

  -- a code point other than U+02BC
  pub encoded : (n : ℕ) → (n ≡ 700 → ⊥) → Stays sign (encode n)
  encoded n d =
      either (Stays sign) (ltb n 128) (λ e. apart n (λ p. omega (arith, ltb-true n 128 e)))
      (λ e. either (Stays sign) (ltb n 2048) (λ f. pair (192 + n / 64) (128 + n % 64) (λ p q. d (omega arith)) (ne_eqb (128 + n % 64) apostrophe_lead (λ p. omega arith)))
      (λ f. followed (apart (224 + n / 4096) (λ p. omega arith)) (followed (apart (128 + n / 64 % 64) (λ p. omega arith)) (apart (128 + n % 64) (λ p. omega arith)))))
    where
      apart : (b : ℕ) → (b ≡ apostrophe_lead → ⊥) → Stays sign (b ∷ [])
      apart b n = other b (ne_eqb b apostrophe_lead n)

  -- a text by the test, and the texts of a table
  pub plain : (x : List ℕ) → plain? x ≡ true → Stays sign x
  plain [] e = nothing
  plain (b ∷ x) e = let p = both_hold (not (eqb b apostrophe_lead)) (plain? x) e in followed (other b (not-true (eqb b apostrophe_lead) p.0)) (plain x p.1)

  pub at1 : (t : List String) → plain1? t ≡ true → (i : ℕ) → Stays sign (form1 t i)
  unfolding form1
  at1 t e i = plain (form1 t i) (every_at (λ s. plain? (utf8 s)) t "" e refl i)

  pub at2 : (t : List (List String)) → plain2? t ≡ true → (i j : ℕ) → Stays sign (form2 t i j)
  unfolding form1 form2
  at2 t e i = at1 (get_or t i []) (every_at plain1? t [] e refl i)

  pub at3 : (t : List (List (List String))) → plain3? t ≡ true → (i j k : ℕ) → Stays sign (form3 t i j k)
  unfolding form2 form3
  at3 t e i = at2 (get_or t i []) (every_at plain2? t [] e refl i)

  -- words behind others, joined, and run together
  pub one : {w w' : Word} → Turns sign w w' → WordsTurn sign (w ∷ []) (w' ∷ [])
  one p = word p none

  pub words_append : {us us' ws ws' : List Word} → WordsTurn sign us us' → WordsTurn sign ws ws' → WordsTurn sign (us ++ ws) (us' ++ ws')
  words_append none q = q
  words_append (word u p) q = word u (words_append p q)

  spaced_turns : {ws ws' : List Word} → WordsTurn sign ws ws' → Turns sign (spaced_by space ws) (spaced_by space ws')
  spaced_turns none = nothing
  spaced_turns (word w p) = followed (other space refl) (followed w (spaced_turns p))

  pub joined_turns : {ws ws' : List Word} → WordsTurn sign ws ws' → Turns sign (joined ws) (joined ws')
  joined_turns none = nothing
  joined_turns (word w p) = followed w (spaced_turns p)

  pub flat_turns : {ws ws' : List Word} → WordsTurn sign ws ws' → Turns sign (flatten ws) (flatten ws')
  unfolding flatten
  flat_turns none = nothing
  flat_turns (word w p) = followed w (flat_turns p)
