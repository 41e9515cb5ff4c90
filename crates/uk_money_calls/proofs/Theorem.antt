-- Demand 3 for Ukrainian money, over the calls' definitions.
-- Assumes nothing.
use Prim.Native.Nat.{ℕ, ◌<◌}
use mathlib.Core.Path.{◌≡◌, refl, sym, ◌∙◌, subst}
use mathlib.Core.Bool.{Bool, true, false, cond, not}
use mathlib.Core.List.{List, ◌∷◌}
use mathlib.Core.Option.{Option, none, some}
use native.Mathlib.Omega.{arith}
use Rattle.base.specs.Answer.{wrong_setting, wrong_code}
use Rattle.base.specs.Claim.{Inverse}
use Rattle.base.proofs.Closing.{Readable}
use Rattle.base.proofs.Closing as closing
use Rattle.settings.specs.Settings.{ukrainian_ranges, within, Within}
use Rattle.settings.specs.Settings.{Settings}
use Rattle.settings.proofs.Ranges.{in_range, behind_settings}
use Rattle.figures.specs.Text.{negative}
use Rattle.figures.specs.Money.{money_formed, whole_of, hundredths_of, money_limit}
use Rattle.figures.specs.Refusals.{amount_refusals, Admitted}
use Rattle.figures.proofs.Laws.Refusals.{none_refused}
use Rattle.figures.proofs.Laws.Round.{amount_is}
use Rattle.uk_money.specs.Currencies.{Currency}
use Rattle.uk_money.specs.Codes.{currency_of, unknown}
use Rattle.uk_money.specs.Rows.{currency_at, code_place}
use Rattle.uk_money.proofs.Amounts.{amount_says, amount_said}
use Rattle.uk_money.proofs.Coded.{coded}
use Rattle.uk_money_read.proofs.Made.{says_once}
use Rattle.uk_money_calls.specs.MoneyCalls.{money_phrase, MoneyMeans, amount_spelling, amount_reading, uk_to_currency, uk_from_currency}
use Rattle.uk_money_calls.proofs.Texts.{admits, hundredths_small}

module _ (S : Settings) (c : Currency) where
  spelled_means : (t : List ℕ) → Admitted (amount_refusals t) → MoneyMeans S (some c) (money_phrase S (some c) t) t
  spelled_means t a =
      let p = admits t a in
      record {
        whole = whole_of t;
        hundredths = hundredths_of t;
        says = amount_says S c (whole_of t) (hundredths_of t) p.within (hundredths_small t a);
        valued = record { formed = p.formed; sign = p.sign; whole_is = refl; hundredths_are = refl };
      }

  means_spelled : (s t : List ℕ) → MoneyMeans S (some c) s t → Admitted (amount_refusals t) × (money_phrase S (some c) t ≡ s)
  means_spelled s t m =
      let w = amount_said S c m.says in
      let x = m.valued in (
        none_refused {f = money_formed t} {r = negative t} {size = whole_of t} {limit = money_limit} (record { formed = x.formed; sign = x.sign; within = rw x.whole_is w.0 }),
        rw (x.whole_is, x.hundredths_are) w.2,
      )

-- of one of the 44
module _ (S : Settings) (w : Within (ukrainian_ranges S)) (i : ℕ) (hi : i < 44) where
  abbrev Means : List ℕ → List ℕ → Type 0
  Means s t = MoneyMeans S (some (currency_at i)) s t

  one_value_lem : (s t u : List ℕ) → Means s t → Means s u → t ≡ u
  one_value_lem s t u p q =
      let e = says_once S w i hi s p.says q.says in
      amount_is p.valued (amount_said S (currency_at i) p.says).0 ∙ rw (e.0, e.1) (sym (amount_is q.valued (amount_said S (currency_at i) q.says).0))

  one_readable : Readable (λ (t : List ℕ). Admitted (amount_refusals t)) (money_phrase S (some (currency_at i))) Means
  one_readable = record { phrase_means = spelled_means S (currency_at i); means_phrase = means_spelled S (currency_at i); one_value = one_value_lem }

-- of every code
module _ (S : Settings) where
  abbrev Both : Option Currency → Type 0
  Both c = Inverse (λ (t : List ℕ). Admitted (amount_refusals t)) (amount_spelling S c) (amount_reading S c)

  one_inverse : (c : Currency) → (amount_reading S (some c)).refusal ≡ 0 → Readable (λ (t : List ℕ). Admitted (amount_refusals t)) (money_phrase S (some c)) (MoneyMeans S (some c)) → Both (some c)
  one_inverse c v R =
      closing.inverse v (λ t a. behind_settings (ukrainian_ranges S) (unknown (some c) ∷ amount_refusals t) v ∙ a) (λ t a. sym (behind_settings (ukrainian_ranges S) (unknown (some c) ∷ amount_refusals t) v) ∙ a) R

  pub money : (code : List ℕ) → (uk_from_currency S code).refusal ≡ 0 → Inverse (λ (t : List ℕ). Admitted (amount_refusals t)) (uk_to_currency S code) (uk_from_currency S code)
  money code v = go (currency_of code) refl v
    where
      unknown_refused : (b : Bool) → cond (not b) wrong_setting wrong_code ≡ 0 → ⊥
      unknown_refused true e = omega arith
      unknown_refused false e = omega arith

      go : (c : Option Currency) → currency_of code ≡ c → (amount_reading S c).refusal ≡ 0 → Both c
      go none e v = absurd (unknown_refused (within (ukrainian_ranges S)) v)
      go (some c) e v =
          let p = coded code c e in
          one_inverse c v (subst (λ (d : Currency). Readable (λ (t : List ℕ). Admitted (amount_refusals t)) (money_phrase S (some d)) (MoneyMeans S (some d))) p.1
          (one_readable S (in_range (ukrainian_ranges S) v) (code_place code) p.0))
