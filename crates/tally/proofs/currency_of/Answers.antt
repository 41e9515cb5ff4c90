-- The first byte is a currency's number, or is 0 or above 44, and then the bytes hold no tally.
-- Assumes nothing.
use Rattle.std.proofs.Common.{◌≡◌, ℕ, ◌<◌, ◌≤◌, ◌↔◌, Option, None, Some, IfSome, IsNone, List, length, get_or, refl, lt-ltb, le-ltb, suc, arith, rules}
use Rattle.uk_money.specs.Currencies.{currencies}
use Rattle.uk_money.specs.declared.currency.CurrencyId.{CurrencyId}
use Rattle.tally.specs.Sums.{CurrencyIn}
use Rattle.tally.proofs.currency_of.Goals as goal

-- in front stands the number of the currency at this place, if there is one
module _ (b : List ℕ) (k : ℕ) (l : 837 ≤ length b) (e : get_or b 0 0 ≡ suc k) where
  numbered : (r : Option CurrencyId) → IfSome r (λ id. id.place ≡ k) → (IsNone r ↔ (44 ≤ k)) → CurrencyIn b r
  unfolding currencies
  numbered (Some id) p n = record {
    found = λ c q.
        let z : id ≡ c = cc in
        let below : k < 44 = rw p at id.known in
        rw (← z, p) (l, e, rw (le-ltb (length b) 837 l, e, lt-ltb k 44 below) refl);
    none = λ q. cc;
  }
  numbered None p n = record { found = λ c q. cc; none = λ q. rw (le-ltb (length b) 837 l, e, le-ltb k 44 (n.0 (search rules))) refl }

pub returns : goal.returns
returns c = numbered c.args.tally.now c.in_ok-checked_sub.field-0 (omega arith) (omega arith) c.new.result c.new.ensures.found c.new.ensures.none
