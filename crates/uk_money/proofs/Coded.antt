-- The currency of a code is the one at the code's place, if it has one.
-- Assumes nothing.
use Prim.Native.Nat.{ℕ, suc, ◌<◌, ◌≤◌}
use mathlib.Core.Path.{◌≡◌, refl, sym, ◌∙◌}
use mathlib.Core.Bool.{Bool, true, false, cond}
use mathlib.Core.List.{List, [], ◌∷◌}
use native.Mathlib.Decide.{dec_lt}
use native.Mathlib.Omega.{arith}
use lib.ListN.{length, get_or}
use mathlib.Core.Option.{none, some, some-injective, none-ne-some}
use Rattle.base.specs.Utf8.{utf8}
use Rattle.base.specs.Same.{same_text}
use Rattle.uk_money.specs.Currencies.{Currency, currencies}
use Rattle.uk_money.specs.Codes.{currency_in, currency_of}
use Rattle.std.specs.Prelude.{Option, Some, None}
use Rattle.uk_money.specs.Rows.{code_place_in, code_place, past, currency_at, CodedAt}
use Rattle.uk_money.specs.declared.currency.CurrencyId.{CurrencyId}

module _ (code : List ℕ) where
  some_in : (cs : List Currency) (d : Currency) → code_place_in cs code < length cs → currency_in cs code ≡ some (get_or cs (code_place_in cs code) d)
  unfolding code_place_in currency_in
  some_in [] d h = absurd (omega arith)
  some_in (c ∷ cs) d h = go (same_text (utf8 c.code) code) h (some_in cs d)
    where
      go : (t : Bool) → cond t 0 (suc (code_place_in cs code)) < suc (length cs)
          → (code_place_in cs code < length cs → currency_in cs code ≡ some (get_or cs (code_place_in cs code) d))
          → cond t (some c) (currency_in cs code) ≡ some (get_or (c ∷ cs) (cond t 0 (suc (code_place_in cs code))) d)
      go true h f = refl
      go false h f = f (omega arith)

  none_in : (cs : List Currency) → length cs ≤ code_place_in cs code → currency_in cs code ≡ none
  unfolding code_place_in currency_in
  none_in [] h = refl
  none_in (c ∷ cs) h = go (same_text (utf8 c.code) code) h (none_in cs)
    where
      go : (t : Bool) → suc (length cs) ≤ cond t 0 (suc (code_place_in cs code)) → (length cs ≤ code_place_in cs code → currency_in cs code ≡ none)
          → cond t (some c) (currency_in cs code) ≡ none
      go true h f = absurd (omega arith)
      go false h f = f (omega arith)

  pub known_code : code_place code < 44 → currency_of code ≡ some (currency_at (code_place code))
  unfolding currencies
  known_code h = some_in currencies past h

  pub unknown_code : 44 ≤ code_place code → currency_of code ≡ none
  unfolding currencies
  unknown_code h = none_in currencies h

  -- a code's currency is one of the 44
  pub coded : (c : Currency) → currency_of code ≡ some c → (code_place code < 44) × (currency_at (code_place code) ≡ c)
  coded c e = go (dec_lt (code_place code) 44)
    where
      go : Dec (code_place code < 44) → (code_place code < 44) × (currency_at (code_place code) ≡ c)
      go (yes h) = (h, some-injective _ _ (sym (known_code h) ∙ e))
      go (no h) = absurd (none-ne-some _ (sym (unknown_code (omega arith)) ∙ e))

  -- what the code finds
  module _ (r : Option CurrencyId) (c : CodedAt code r) where
    pub found_code : (id : CurrencyId) → r ≡ Some id → currency_of code ≡ some (currency_at id.place)
    found_code id e = rw (c.found id e) (known_code (rw (← c.found id e) id.known))

    pub no_code : r ≡ None → currency_of code ≡ none
    no_code e = unknown_code (c.none e)
