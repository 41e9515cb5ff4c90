-- The reader's promise in each of its answers.
-- Assumes nothing.
use Prim.Native.Nat.{ℕ, ◌+◌, ◌-◌, ◌<◌, ◌≤◌}
use mathlib.Core.Path.{◌≡◌, sym, ◌∙◌, ap, subst}
use mathlib.Core.List.{List}
use lib.ListN.{length, get_or, take, drop}
use lib.Seq.{drop-drop}
use Rattle.std.proofs.lemmas.List.{take_rest}
use Rattle.std.specs.Prelude.{Some, None}
use Rattle.base.specs.Join.{Word}
use Rattle.settings.specs.Settings.{ukrainian_ranges, Within}
use Rattle.settings.specs.Settings.{Settings}
use Rattle.figures.specs.Groups.{total}
use Rattle.figures.specs.Money.{money_limit}
use Rattle.tokens.specs.Tokens.{split}
use Rattle.uk_read.specs.Reading.{sums, left}
use Rattle.uk_money.specs.Money.{amount_phrase}
use Rattle.uk_money.specs.MoneyGrammar.{SaysMoney}
use Rattle.uk_money.specs.Rows.{currency_at}
use Rattle.uk_money.proofs.Amounts.{amount_says, amount_said}
use Rattle.uk_money_read.specs.Behind.{behind}
use Rattle.uk_money_read.specs.Promise.{ReadMoney}
use Rattle.uk_money_read.specs.declared.Amount.{Amount}
use Rattle.uk_money_read.proofs.Made.{Guessed, plainly, alone, guessed}

-- what the code lends as `&s[k..]`
abbrev from : ℕ → List ℕ → List ℕ
from k s = take (length s - k) (drop k s)

-- the hundredths, from the number words behind the first nouns
pub behind_nouns : (s : List ℕ) (n m h : ℕ) → split (drop n s) ≡ left 22 (split s) → split (drop m (from n s)) ≡ behind (split (from n s))
    → h ≡ get_or (sums 22 (split (from (n + m) s))) 0 0 → h ≡ get_or (sums 22 (behind (left 22 (split s)))) 0 0
behind_nouns s n m h a b e =
    let f = take_rest s n in
    let q : split (from (n + m) s) ≡ behind (left 22 (split s)) =
    ap split (take_rest s (n + m) ∙ sym (drop-drop m n s) ∙ ap (drop m) (sym f)) ∙ b ∙ ap (λ (l : List ℕ). behind (split l)) f ∙ ap behind a in
    e ∙ ap (λ (l : List Word). get_or (sums 22 l) 0 0) q

module _ (S : Settings) (w : Within (ukrainian_ranges S)) (i : ℕ) (hi : i < 44) (s : List ℕ) where
  -- what the code tests of an amount: that it is within the limits, and its phrase is the bytes
  abbrev Tested : ℕ → ℕ → Type 0
  Tested n h = (n ≤ money_limit) × (h < 100) × (amount_phrase S (currency_at i) n h ≡ s)

  says : {n h : ℕ} → Tested n h → SaysMoney S (currency_at i) s n h
  says {n} {h} p = subst (λ (t : List ℕ). SaysMoney S (currency_at i) t n h) p.2 (amount_says S (currency_at i) n h p.0 p.1)

  pub found : (amount : Amount) → Tested (total amount.whole.groups) amount.hundredths → ReadMoney S (currency_at i) s (Some amount)
  found amount p = record { reads = λ a e. let q : amount ≡ a = cc in rw (← q) (says p, p.1); refuses = λ e. cc }

  -- neither the amount that was made of the bytes nor the hundredths alone
  module _ (gs zs : List ℕ) (e : total zs ≡ 0) (eg : gs ≡ sums 22 (split s))
      (h : ℕ) (eh : h ≡ get_or (sums 22 (behind (left 22 (split s)))) 0 0) (a : Tested (total gs) h → ⊥) (b : Tested (total zs) (get_or gs 0 0) → ⊥) where
    refuted : {n k : ℕ} → SaysMoney S (currency_at i) s n k → Guessed s n k → ⊥
    refuted p (plainly t q) = a (rw (ap total eg ∙ t, eh ∙ q) (amount_said S (currency_at i) p))
    refuted p (alone q) = b (rw (e, ap (λ (l : List ℕ). get_or l 0 0) eg ∙ q) (amount_said S (currency_at i) p))

    pub refused : ReadMoney S (currency_at i) s None
    refused = record { reads = λ a e. cc; refuses = λ e n k p. refuted p (guessed S w i hi s p) }
