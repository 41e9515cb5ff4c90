-- The count at the front of a stem, word by word, and what a stem means, as the code tells it.
-- Assumes nothing.
use Prim.Native.Nat.{ℕ, zero, suc, ◌+◌, ◌-◌, ◌/◌, ◌%◌, ◌<◌}
use mathlib.Core.Path.{◌≡◌, refl, sym, ◌∙◌, ap}
use mathlib.Core.Bool.{Bool, true, false, cond}
use mathlib.Core.List.{List}
use native.Mathlib.Omega.{arith}
use borrow.Author.Tests.{eq-eqb, ne_eqb}
use lib.Dec.{eqb}
use lib.ListN.{length, take, drop}
use lib.Seq.{drop-drop}
use Rattle.std.proofs.lemmas.List.{take_rest}
use Rattle.tokens.specs.Tokens.{first_word, key}
use Rattle.uk_ordinal_meanings.specs.Meanings.{meaning_of}
use Rattle.uk_counts.specs.Counts.{count_of}
use Rattle.uk_ordinal_read.specs.LastWord.{grown, counted, uncounted, compound, stem_order, stem_value}

-- what at most k count words at the front of s make of a count, and what is left
pub record Counts (k value : ℕ) (s : List ℕ) (result : ℕ) (rest : List ℕ) : Type 0 where
  pub counts : counted k value s ≡ result
  pub leaves : uncounted k s ≡ rest

-- nothing, where no count word stands
pub none : (k value : ℕ) (s : List ℕ) → count_of s ≡ 0 → Counts k value s value s
unfolding counted uncounted
none zero value s e = record { counts = refl; leaves = refl }
none (suc k) value s e = record { counts = rw (eq-eqb (count_of s) 0 e) refl; leaves = rw (eq-eqb (count_of s) 0 e) refl }

-- one more
pub one : (k value e : ℕ) (s : List ℕ) {result : ℕ} {rest : List ℕ} → count_of s ≡ e → 0 < e → Counts k (grown value (e / 64)) (drop (e % 64) s) result rest → Counts (suc k) value s result rest
unfolding counted uncounted
one k value e s h p c = record {
  counts = rw (h, ne_eqb e 0 (λ z. omega arith)) c.counts;
  leaves = rw (h, ne_eqb e 0 (λ z. omega arith)) c.leaves;
}

-- one less
less : (k value e : ℕ) (s : List ℕ) (v l : ℕ) {result : ℕ} {rest : List ℕ} → count_of s ≡ e → 0 < e → v ≡ e / 64 → l ≡ e % 64 → Counts (suc k) value s result rest → Counts k (grown value v) (drop l s) result rest
unfolding counted uncounted
less k value e s v l h p a b c =
    let n : eqb e 0 ≡ false = ne_eqb e 0 (λ z. omega arith) in
    record { counts = rw (a, b) (rw (h, n) at c.counts); leaves = rw b (rw (h, n) at c.leaves) }

-- what is left to count at a place of a stem
module _ (s : List ℕ) (at : ℕ) {k value result : ℕ} {rest : List ℕ} (c : Counts k value (drop at s) result rest) where
  abbrev entry : ℕ
  entry = count_of (take (length s - at) (drop at s))

  -- nothing: no count word stands there, or no more are taken
  pub stopped : entry ≡ 0 → (value ≡ result) × (drop at s ≡ rest)
  stopped z = let n = none k value (drop at s) (ap count_of (sym (take_rest s at)) ∙ z) in (sym n.counts ∙ c.counts, sym n.leaves ∙ c.leaves)

  pub all_taken : k ≡ 0 → (value ≡ result) × (drop at s ≡ rest)
  unfolding counted uncounted
  all_taken z = (ap (λ (k : ℕ). counted k value (drop at s)) (sym z) ∙ c.counts, ap (λ (k : ℕ). uncounted k (drop at s)) (sym z) ∙ c.leaves)

  -- what is left behind a word that counts v in l bytes
  pub goes_on : (more v l : ℕ) → k ≡ suc more → 0 < entry → v ≡ entry / 64 → l ≡ entry % 64 → Counts more (grown value v) (drop (at + l) s) result rest
  goes_on more v l q p a b =
      let t : entry ≡ count_of (drop at s) = ap count_of (take_rest s at) in
      rw (← drop-drop l at s) (less more value (count_of (drop at s)) (drop at s) v l refl (rw t at p) (rw t at a) (rw t at b) (rw q at c))

-- what the code promises of a stem
abbrev pub Means : List ℕ → ℕ → ℕ → Type 0
Means s order value = (order ≡ stem_order s) × (value ≡ stem_value s) × (order < 22) × (value < 1000)

-- a compound, whose count v is followed by a word with the key k, which means m
pub compound_means : (s : List ℕ) (v next k m : ℕ) → compound s ≡ true → v ≡ counted 4 0 s → v < 1000 → drop next s ≡ uncounted 4 s → k ≡ key (first_word (take (length s - next) (drop next s))) → m ≡ meaning_of k
    → Means s (m % 1000 % 22) (cond (eqb v 0) 1 v)
unfolding stem_order stem_value
compound_means s v next k m t a l b e f =
    let q : m ≡ meaning_of (key (first_word (uncounted 4 s))) = f ∙ ap meaning_of (rw (take_rest s next, b) at e) in
    (rw (t, ← q) refl, rw (t, ← a) refl, omega arith, small (eqb v 0))
  where
    small : (b : Bool) → cond b 1 v < 1000
    small true = omega arith
    small false = l

-- a stem of order 0
pub plain_stem : (s : List ℕ) (m : ℕ) → compound s ≡ false → m ≡ meaning_of (key (first_word s)) → Means s 0 (m % 1000)
unfolding stem_order stem_value
plain_stem s m t b = (sym (rw t refl), sym (rw (t, ← b) refl), omega arith, omega arith)
