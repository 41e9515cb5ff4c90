-- The words of an amount are an amount with its whole part and hundredths by the grammar, and every amount by the grammar has these words.
-- Assumes nothing.
use Prim.Native.Nat.{ℕ, zero, suc, ◌^◌, ◌<◌, ◌≤◌}
use mathlib.Core.Path.{◌≡◌, refl, sym, ap, ◌∙◌}
use mathlib.Core.Bool.{false}
use mathlib.Core.List.{List, ◌++◌}
use native.Mathlib.Nat.{lt_of_le_of_lt, lt_trans}
use native.Mathlib.Omega.{arith}
use lib.Dec.{lit<}
use Rattle.base.specs.Join.{Word, joined}
use Rattle.settings.specs.Settings.{in_gender, Settings}
use Rattle.figures.specs.Money.{money_limit}
use Rattle.cardinals.proofs.Numbers.{sentence, spelled}
use Rattle.uk.specs.Ukrainian.{ukrainian}
use Rattle.uk_money.specs.Nouns.{Name, agreed_name}
use Rattle.uk_money.specs.Currencies.{Currency}
use Rattle.uk_money.specs.Money.{count_words, amount_words, amount_phrase}
use Rattle.uk_money.specs.MoneyGrammar.{Counted, counted, Amount, wholly, partly, both, SaysMoney}

module _ (S : Settings) where
  -- counts
  count_sentence : (name : Name) (n : ℕ) → n < 1000 ^ 22 → Counted S name (count_words S name n) n
  unfolding count_words ukrainian
  count_sentence name n l = counted (sentence (ukrainian (in_gender name.gender S)) false n l (λ z. refl))

  count_spelled : {name : Name} {ws : List Word} {n : ℕ} → Counted S name ws n → count_words S name n ≡ ws
  unfolding count_words
  count_spelled {name} (counted {n = n} s) =
      ap (λ (us : List Word). us ++ agreed_name S name n) (spelled (ukrainian (in_gender name.gender S)) s).1

  -- amounts
  module _ (c : Currency) where
    amount_sentence : (n h : ℕ) → n ≤ money_limit → h < 100 → Amount S c (amount_words S c n h) n h
    unfolding amount_words
    amount_sentence n zero l k = wholly (count_sentence c.main n (lt_of_le_of_lt l (lit< tt))) l
    amount_sentence zero (suc h) l k = partly (count_sentence c.fraction (suc h) (lt_trans k (lit< tt))) (omega arith) k
    amount_sentence (suc n) (suc h) l k =
        both (count_sentence c.main (suc n) (lt_of_le_of_lt l (lit< tt))) (omega arith) l
        (count_sentence c.fraction (suc h) (lt_trans k (lit< tt))) (omega arith) k

    amount_spelled : {ws : List Word} {n h : ℕ} → Amount S c ws n h → (n ≤ money_limit) × (h < 100) × (amount_words S c n h ≡ ws)
    unfolding amount_words
    amount_spelled (wholly s l) = (l, omega arith, count_spelled s)
    amount_spelled (partly {h = zero} s p k) = absurd (omega arith)
    amount_spelled (partly {h = suc h} s p k) = (omega arith, k, count_spelled s)
    amount_spelled (both {n = zero} r q l s p k) = absurd (omega arith)
    amount_spelled (both {n = suc n} {h = zero} r q l s p k) = absurd (omega arith)
    amount_spelled (both {n = suc n} {h = suc h} r q l s p k) = (l, k, rw (count_spelled r, count_spelled s) refl)

    -- the same of bytes
    pub amount_says : (n h : ℕ) → n ≤ money_limit → h < 100 → SaysMoney S c (amount_phrase S c n h) n h
    unfolding amount_phrase
    amount_says n h l k = record { words = amount_words S c n h; derives = amount_sentence n h l k; bytes = refl }

    pub amount_said : {s : List ℕ} {n h : ℕ} → SaysMoney S c s n h → (n ≤ money_limit) × (h < 100) × (amount_phrase S c n h ≡ s)
    unfolding amount_phrase
    amount_said w = let p = amount_spelled w.derives in (p.0, p.1, ap joined p.2 ∙ sym w.bytes)
