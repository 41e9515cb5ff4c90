-- A phrase that a reader refuses: what the reader makes of it is the only figure that it could mean, and that figure has another phrase.
-- Assumes nothing.
use Prim.Native.Nat.{ℕ, zero, suc, ◌*◌}
use mathlib.Core.Path.{◌≡◌, refl, sym, ap, ◌∙◌}
use mathlib.Core.Bool.{Bool, false}
use mathlib.Core.List.{List, []}
use native.Mathlib.Omega.{arith}
use Rattle.base.specs.Answer.{no_sentence, refused}
use Rattle.base.specs.Join.{Word}
use Rattle.base.specs.Reading.{Replies, otherwise}
use Rattle.base.specs.Same.{same_text}
use Rattle.base.proofs.Same.{same_not}
use Rattle.figures.specs.Groups.{total}
use Rattle.figures.specs.Value.{NumberMeans}
use Rattle.cardinals.specs.Lexicon.{Lexicon}
use Rattle.cardinals.specs.Cardinal.{cardinal_phrase}
use Rattle.cardinals.specs.Grammar.{Says}
use Rattle.cardinals.proofs.Numbers.{said}
use Rattle.uk_read.specs.Reading.{Taken, taken, sums}
use Rattle.uk_read.proofs.Taking.{closed}
use Rattle.uk_read.proofs.Falls.{sums_taken, sums_over}

-- in any language: the guess m and h is right wherever the bytes s are a sentence, and h is n, whose phrase is another
pub no_sentence_lem : {L : Lexicon} {s : List ℕ} {m : Bool} {h n : ℕ} → ((k : Bool) (l : ℕ) → Says L s k l → (m ≡ k) × (h ≡ l)) → h ≡ n
    → same_text (cardinal_phrase L m n) s ≡ false → (xs : List ℕ) → Replies (record { refusal = 0; Means = λ (s t : List ℕ). NumberMeans (Says L s) t }) s xs (refused no_sentence 0)
no_sentence_lem {L} {s} {m = m} {n = n} right a e xs = otherwise refl other
  where
    other : (t : List ℕ) → NumberMeans (Says L s) t → ⊥
    other t p =
        let r = right p.minus p.magnitude p.says in
        same_not (cardinal_phrase L m n) s e (rw (r.0, sym a ∙ r.1) (said L p.says).1)

-- of Ukrainian thousands alone their number is made
pub thousands : (ws : List Word) (v : ℕ) → taken 0 ws ≡ closed v 1 [] → (k : ℕ) → total (sums (suc (suc k)) ws) ≡ v * 1000
unfolding sums taken
thousands ws v e zero = (sums_taken 1 ws v [] e).0 ∙ omega arith
thousands ws v e (suc k) =
    let o : (taken 0 ws).order ≡ 1 = ap (λ (t : Taken). t.order) e in
    (sums_over (suc (suc k)) ws (λ z. omega arith)).0 ∙ thousands ws v e k
