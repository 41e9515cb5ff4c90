-- What the speller needs of an admitted money text's whole part and hundredths.
-- Assumes nothing.
use Prim.Native.Nat.{ℕ, ◌+◌, ◌-◌, ◌/◌, ◌^◌, ◌≤◌, ◌<◌}
use native.Mathlib.Decide.{dec_lt}
use native.Mathlib.Nat.{lt_of_le_of_lt}
use native.Mathlib.Omega.{arith}
use mathlib.Core.Path.{◌≡◌, refl, sym, ap, ◌∙◌}
use mathlib.Core.Bool.{Bool, true, false, cond, not, and-eq-true_iff}
use mathlib.Core.List.{List}
use lib.Dec.{eqb, lit<}
use lib.ListN.{length, take}
use Rattle.figures.specs.Groups.{groups_of, total}
use Rattle.figures.specs.Text.{digits, plain, value, negative, unsigned, well_formed}
use Rattle.figures.specs.Money.{pointed, whole_text, hundredths_text, money_formed, whole_of, money_limit}
use Rattle.figures.specs.Refusals.{amount_refusals, Admitted}
use Rattle.figures.proofs.Laws.Digits.{value_lt}
use Rattle.figures.proofs.Laws.Groups.{groups_total}
use Rattle.figures.proofs.Laws.Sign.{plain_size}
use Rattle.figures.proofs.Laws.Money.{hundredths_size, money_pointed, whole_plain}
use Rattle.figures.proofs.Laws.Refusals.{Passed, passed}
use Rattle.figures.proofs.Laws.Round.{negative_take}
use Rattle.groups.specs.declared.number.Number.{Number}
use Rattle.groups.proofs.Held.{Held, held_text}
use Rattle.groups.proofs.Highest.{small_zeros}

pub admits : (t : List ℕ) → Admitted (amount_refusals t) → Passed (money_formed t) (negative t) (whole_of t) money_limit
admits t a = passed (money_formed t) (negative t) (whole_of t) money_limit a

formed_plain : (s : List ℕ) → plain (unsigned s) ≡ true → negative s ≡ false → well_formed s ≡ true
formed_plain s f e = rw (f, e) refl

-- a number below 1000 to the k has at most k orders
few_orders : {N : ℕ} (k : ℕ) (n : Number N) → 1 ≤ k → total n.groups < 1000 ^ k → n.orders ≤ k
few_orders k n h l = go (dec_lt k n.orders)
  where
    go : Dec (k < n.orders) → n.orders ≤ k
    go (yes q) = absurd (n.highest.some (omega arith) (rw (groups_total n.groups n.small) at (small_zeros (total n.groups) k (length n.groups) l (n.orders - 1) (omega arith))))
    go (no q) = omega arith

module _ (t : List ℕ) (a : Admitted (amount_refusals t)) where
  formed : money_formed t ≡ true
  formed = (admits t a).formed

  whole_sign : negative (whole_text t) ≡ false
  whole_sign = go (pointed t)
    where
      go : (b : Bool) → negative (cond b (take (length t - 3) t) t) ≡ false
      go true = negative_take (length t - 3) t (admits t a).sign
      go false = (admits t a).sign

  pub plain_whole : plain (unsigned (whole_text t)) ≡ true
  plain_whole = whole_plain t formed

  pub whole_formed : well_formed (whole_text t) ≡ true
  whole_formed = formed_plain (whole_text t) plain_whole whole_sign

  -- within the limit there are at most 20 digits
  pub whole_few : length (unsigned (whole_text t)) ≤ 20
  whole_few = plain_size (unsigned (whole_text t)) 20 plain_whole (omega arith) (omega (arith, (admits t a).within))

  -- s being its digits, their groups have at most 7 orders
  pub whole_held : (s gs : List ℕ) (n : ℕ) → s ≡ unsigned (whole_text t) → gs ≡ groups_of 22 (value s) → n ≡ (length s + 2) / 3 → Held 22 (unsigned (whole_text t)) gs n × (n ≤ 7)
  whole_held s gs n e g c = (held_text 22 (whole_text t) s gs n whole_formed (omega (arith, whole_few)) e g c, omega (arith, ap length e, whole_few))

  -- and at most 7 orders
  pub whole_orders : (n : Number 22) → total n.groups ≡ value (unsigned (whole_text t)) → n.orders ≤ 7
  whole_orders n e = few_orders 7 n (omega arith) (rw e (lt_of_le_of_lt (admits t a).within (lit< tt)))

  pub hundredths_digits : digits (hundredths_text t) ≡ true
  hundredths_digits = go (pointed t) refl
    where
      go : (b : Bool) → pointed t ≡ b → digits (hundredths_text t) ≡ true
      go true e = ((and-eq-true_iff (digits (hundredths_text t)) (not (eqb (value (hundredths_text t)) 0))).0 (sym (money_pointed t e plain_whole) ∙ formed)).0
      go false e = rw e refl

  pub hundredths_small : value (hundredths_text t) < 100
  hundredths_small = go (pointed t) refl
    where
      go : (b : Bool) → pointed t ≡ b → value (hundredths_text t) < 100
      go true e = rw (hundredths_size t e) at (value_lt (hundredths_text t) hundredths_digits)
      go false e = rw e (omega arith)
