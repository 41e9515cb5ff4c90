-- A Ukrainian phrase under an apostrophe is the phrase with U+02BC, the apostrophe's sign in place of each: over all Ukrainian spelling calls.
-- Assumes nothing.
use Prim.Native.Nat.{ℕ}
use mathlib.Core.Path.{◌≡◌, refl}
use mathlib.Core.List.{List, ◌∷◌}
use mathlib.Core.Option.{Option, none, some}
use lib.IntN.{ℤ}
use Rattle.base.specs.Answer.{Spelling}
use Rattle.base.specs.Replaced.{replaced}
use Rattle.base.proofs.Replaced.{Turns, turned, nothing, joined_turns}
use Rattle.settings.specs.Settings.{ukrainian_settings, ukrainian_ranges}
use Rattle.settings.specs.Settings.{Settings}
use Rattle.settings.proofs.Ranges.{unrefused, in_range}
use Rattle.figures.specs.Text.{value, negative, unsigned}
use Rattle.figures.specs.Money.{whole_of, hundredths_of}
use Rattle.figures.specs.Refusals.{ukrainian_digit_limit, cardinal_refusals, ordinal_refusals, digit_ordinal_refusals, amount_refusals}
use Rattle.uk.specs.Apostrophes.{sign_bytes}
use Rattle.uk.proofs.Apostrophes.{in_apostrophe, cardinal_turns}
use Rattle.uk_calls.specs.UkCardinals.{uk_to_cardinal}
use Rattle.uk_ordinal.proofs.Apostrophes.{digit_ordinal_turns, ordinal_turns, year_turns}
use Rattle.uk_ordinal_calls.specs.UkOrdinals.{uk_to_ordinal, uk_to_ordinal_num, uk_to_year}
use Rattle.uk_ordinal_calls.proofs.Admitted.{digit_ordinal_digits}
use Rattle.uk_money.specs.Currencies.{Currency}
use Rattle.uk_money.specs.Codes.{currency_of, unknown}
use Rattle.uk_money.proofs.Apostrophes.{money_turns}
use Rattle.uk_money_calls.specs.MoneyCalls.{amount_spelling, uk_to_currency}
use Rattle.yokepear.specs.Calls.{SpellingCall, spelling_of}
use Rattle.yokepear.specs.Apostrophes.{OverApostrophe, cardinal, ordinal, ordinal_num, year, currency}

-- of each kind
module _ (S : Settings) (a : ℕ) where
  abbrev Spelled : (Settings → Spelling) → Type 0
  Spelled f = (f (in_apostrophe a S)).refusal ≡ 0 → Turns (sign_bytes a) (f (in_apostrophe 0 S)).phrase (f (in_apostrophe a S)).phrase

  cardinals : (t : List ℕ) → Spelled (λ S. uk_to_cardinal S t)
  cardinals t e =
      let u = unrefused {rs = ukrainian_ranges (in_apostrophe a S)} {cs = cardinal_refusals ukrainian_digit_limit t} e in
      cardinal_turns a u.settings.1.1.1.0 S (negative t) (value (unsigned t))

  ordinals : (t : List ℕ) → Spelled (λ S. uk_to_ordinal S t)
  ordinals t e =
      let u = unrefused {rs = ukrainian_ranges (in_apostrophe a S)} {cs = ordinal_refusals ukrainian_digit_limit t} e in
      joined_turns (ordinal_turns a u.settings.1.1.1.0 S (value (unsigned t)))

  digit_ordinals : (t : List ℕ) → Spelled (λ S. uk_to_ordinal_num S t)
  digit_ordinals t e =
      let u = unrefused {rs = ukrainian_ranges (in_apostrophe a S)} {cs = digit_ordinal_refusals t} e in
      digit_ordinal_turns a u.settings.1.1.1.0 S t (digit_ordinal_digits t u.others).0

  years : (y : ℤ) → Spelled (λ S. uk_to_year S y)
  years y e = joined_turns (year_turns a (in_range (ukrainian_ranges (in_apostrophe a S)) e).1.1.1.0 S y)

  money : (code t : List ℕ) → Spelled (λ S. uk_to_currency S code t)
  money code t = go (currency_of code) refl
    where
      go : (c : Option Currency) → currency_of code ≡ c → Spelled (λ S. amount_spelling S c t)
      go none i e = nothing
      go (some c) i e =
          let u = unrefused {rs = ukrainian_ranges (in_apostrophe a S)} {cs = unknown (some c) ∷ amount_refusals t} e in
          money_turns a u.settings.1.1.1.0 S code c i (whole_of t) (hundredths_of t)

-- of every call: where nothing is refused, the phrase under an apostrophe is the phrase under 0 with the apostrophe's sign in place of each U+02BC
pub apostrophe_replaced : {call : ℕ → SpellingCall} → OverApostrophe call → (a : ℕ) → (spelling_of (call a)).refusal ≡ 0
    → (spelling_of (call a)).phrase ≡ replaced (sign_bytes a) (spelling_of (call 0)).phrase
apostrophe_replaced (cardinal gender number case style t) a e = turned (cardinals (ukrainian_settings gender number case 0 style) a t e)
apostrophe_replaced (ordinal gender number case style t) a e = turned (ordinals (ukrainian_settings gender number case 0 style) a t e)
apostrophe_replaced (ordinal_num gender number case style t) a e = turned (digit_ordinals (ukrainian_settings gender number case 0 style) a t e)
apostrophe_replaced (year gender number case style y) a e = turned (years (ukrainian_settings gender number case 0 style) a y e)
apostrophe_replaced (currency gender number case style code t) a e = turned (money (ukrainian_settings gender number case 0 style) a code t e)
