-- The reader's answer in each case, against what reading an amount is.
-- Assumes nothing.
use Prim.Native.Nat.{ℕ, ◌^◌, ◌<◌, ◌≤◌}
use native.Mathlib.Nat.{lt_of_le_of_lt}
use mathlib.Core.Path.{◌≡◌, refl}
use mathlib.Core.List.{List}
use mathlib.Core.Option.{some}
use lib.Dec.{lit<}
use Rattle.std.specs.Prelude.{Some, None}
use Rattle.base.specs.Answer.{no_sentence, refused, fitted, Answers}
use Rattle.base.specs.Reading.{sentence, otherwise, Reads}
use Rattle.base.specs.declared.Answer.{Answer}
use Rattle.settings.specs.Settings.{Settings}
use Rattle.figures.specs.Groups.{total}
use Rattle.figures.specs.Money.{money_limit}
use Rattle.figures.specs.Written.{money_decimal}
use Rattle.figures.proofs.Laws.Round.{amount_text}
use Rattle.uk_money.specs.Currencies.{Currency}
use Rattle.uk_money.proofs.Amounts.{amount_said}
use Rattle.uk_money_read.specs.Promise.{ReadMoney}
use Rattle.uk_money_read.specs.declared.Amount.{Amount}
use Rattle.uk_money_calls.specs.MoneyCalls.{amount_reading}

-- a whole part within the limit has at most 102 digits
money_small : {n : ℕ} → n ≤ money_limit → n < 10 ^ 102
money_small l = lt_of_le_of_lt l (lit< tt)

module _ (S : Settings) (c : Currency) (valid : (amount_reading S (some c)).refusal ≡ 0) (s xs ys : List ℕ) (r : Answer) where
  abbrev Right : Type 0
  Right = Reads (amount_reading S (some c)) s r xs ys

  pub read_none : ReadMoney S c s None → Answers r xs ys (refused no_sentence 0) → Right
  read_none p a = record { reply = refused no_sentence 0; is_reply = otherwise valid (λ t m. p.refuses refl m.whole m.hundredths m.says); is_answer = a }

  pub read_some : (amount : Amount) → ReadMoney S c s (Some amount) → Answers r xs ys (fitted xs (money_decimal (total amount.whole.groups) amount.hundredths)) → Right
  read_some amount p a =
      let q = (p.reads amount refl).0 in
      let l = amount_said S c q in
      let n = total amount.whole.groups in
      record {
        reply = fitted xs (money_decimal n amount.hundredths);
        is_reply = sentence valid (money_decimal n amount.hundredths) (record { whole = n; hundredths = amount.hundredths; says = q; valued = amount_text n amount.hundredths (money_small l.0) l.1 });
        is_answer = a;
      }
