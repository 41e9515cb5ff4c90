-- What is made of a text's words, as the code has it: place by place in the text.
-- Assumes nothing.
use Prim.Native.Nat.{ℕ, ◌+◌, ◌-◌, ◌%◌, ◌<◌, ◌≤◌}
use mathlib.Core.Path.{◌≡◌, refl, sym, ◌∙◌, ap}
use mathlib.Core.Bool.{Bool, true, false}
use mathlib.Core.List.{List, [], ◌∷◌}
use native.Mathlib.Omega.{arith}
use borrow.Author.Tests.{eq-eqb, ne_eqb, lt-ltb, le-ltb}
use lib.ListN.{length, take, drop, length-drop, drop_of_length-le}
use lib.Seq.{drop-drop}
use Rattle.std.proofs.lemmas.List.{take_rest}
use Rattle.tokens.specs.Tokens.{first_word, split, Took}
use Rattle.tokens.proofs.Words.{split_first}
use Rattle.uk_meanings.specs.Meanings.{meaning_of}
use Rattle.uk_read.specs.Reading.{mean, taken, signed, after_minus}
use Rattle.uk_read.proofs.Taking.{closed}

-- the word at a place of a text: its meaning m, the words behind it, and where these start
pub record Looked (s : List ℕ) (at next m : ℕ) : Type 0 where
  pub means : m ≡ mean (first_word (drop at s))
  pub words : split (drop at s) ≡ first_word (drop at s) ∷ split (drop (at + next) s)
  pub within : at + next ≤ length s
  pub moves : 0 < next

pub looked : (s : List ℕ) (at k next m : ℕ) → at < length s → Took (take (length s - at) (drop at s)) k next → m ≡ meaning_of k → Looked s at next m
looked s at k next m h t e =
    let w : Took (drop at s) k next = rw (← take_rest s at) t in
    let l = length-drop at s in
    record {
      means = e ∙ ap meaning_of w.0;
      words = split_first (drop at s) (omega arith) ∙ rw (← w.1, drop-drop) refl;
      within = omega (arith, w.2);
      moves = w.3 (omega arith);
    }

module _ {s : List ℕ} {at next m : ℕ} (k : Looked s at next m) (v : ℕ) where
  pub stopped : m ≡ 0 → taken v (split (drop at s)) ≡ closed v 0 (split (drop at s))
  unfolding taken
  stopped z = rw (k.words, eq-eqb (mean (first_word (drop at s))) 0 (sym k.means ∙ z)) refl

  pub scaled : (m ≡ 0 → ⊥) → 999 < m → taken v (split (drop at s)) ≡ closed v (m - 1000) (split (drop (at + next) s))
  unfolding taken
  scaled z l = rw (k.words, sym k.means, ne_eqb m 0 z, lt-ltb 999 m l) refl

  pub added : (m ≡ 0 → ⊥) → m ≤ 999 → taken v (split (drop at s)) ≡ taken ((v + m) % 1000) (split (drop (at + next) s))
  unfolding taken
  added z l = rw (k.words, sym k.means, ne_eqb m 0 z, le-ltb 999 m l) refl

pub ended : (s : List ℕ) (at v : ℕ) → length s ≤ at → taken v (split (drop at s)) ≡ closed v 0 (split (drop at s))
unfolding taken split
ended s at v h = rw (drop_of_length-le s {i = at} h) refl

-- the sign: whether it stands there, and what is behind r bytes
abbrev pub Sign : Bool → ℕ → List ℕ → Type 0
Sign b r s = (b ≡ signed (split s)) × (split (drop r s) ≡ after_minus (split s)) × (r ≤ length s)

pub sign_none : (s : List ℕ) → length s ≡ 0 → Sign false 0 s
unfolding split
sign_none [] h = (refl, refl, omega arith)
sign_none (b ∷ s) h = absurd (omega arith)

module _ (s : List ℕ) (k next m : ℕ) (h : length s ≡ 0 → ⊥) (t : Took s k next) (e : m ≡ meaning_of k) where
  first : split s ≡ first_word s ∷ split (drop next s)
  first = split_first s (omega arith) ∙ rw (← t.1) refl

  pub sign_some : m ≡ 2001 → Sign true next s
  sign_some q =
      let f : mean (first_word s) ≡ 2001 = sym (ap meaning_of t.0) ∙ sym e ∙ q in
      rw (first, f) (refl, refl, t.2)

  pub sign_other : (m ≡ 2001 → ⊥) → Sign false 0 s
  sign_other q =
      let f : mean (first_word s) ≡ 2001 → ⊥ = λ z. q (e ∙ ap meaning_of t.0 ∙ z) in
      rw (first, ne_eqb (mean (first_word s)) 2001 f) (refl, refl, omega arith)
