-- A phrase that is spelled is never empty, and neither is any of its words: over all spelling calls.
-- Assumes nothing.
use Prim.Native.Nat.{ℕ, ◌<◌}
use mathlib.Core.Path.{◌≡◌, refl}
use mathlib.Core.Bool.{false}
use mathlib.Core.List.{List, ◌∷◌}
use mathlib.Core.Option.{Option, none, some}
use native.Mathlib.Omega.{arith}
use lib.IntN.{ℤ}
use lib.ListN.{length}
use Rattle.base.specs.Divide.{divided, NoneEmpty}
use Rattle.base.specs.Signs.{space}
use Rattle.base.proofs.Words.{Solid, solid_parts, solid_some, joined_solid}
use Rattle.settings.specs.Settings.{ukrainian_settings, french_settings, ukrainian_ranges, french_ranges}
use Rattle.settings.specs.Settings.{Settings}
use Rattle.settings.proofs.Ranges.{unrefused, in_range}
use Rattle.figures.specs.Text.{value, negative, unsigned, well_formed}
use Rattle.figures.specs.Money.{whole_of, hundredths_of}
use Rattle.figures.specs.Refusals.{ukrainian_digit_limit, french_digit_limit, cardinal_refusals, ordinal_refusals, digit_ordinal_refusals, amount_refusals}
use Rattle.figures.proofs.Laws.Refusals.{passed, passed_held}
use Rattle.uk.proofs.Words.{ukrainian_cardinal}
use Rattle.uk_calls.specs.UkCardinals.{uk_to_cardinal}
use Rattle.uk_ordinal.specs.Ordinal.{ordinal_words}
use Rattle.uk_ordinal.specs.Year.{year_words}
use Rattle.uk_ordinal.proofs.Words.{digit_ordinal_solid, ordinal_solid, year_words_solid}
use Rattle.uk_ordinal_calls.specs.UkOrdinals.{uk_to_ordinal, uk_to_ordinal_num, uk_to_year}
use Rattle.uk_ordinal_calls.proofs.Admitted.{digit_ordinal_digits}
use Rattle.uk_money.specs.Currencies.{Currency}
use Rattle.uk_money.specs.Codes.{currency_of, unknown}
use Rattle.uk_money.proofs.Words.{money_solid}
use Rattle.uk_money_calls.specs.MoneyCalls.{amount_spelling, uk_to_currency}
use Rattle.fr.proofs.Words.{french_cardinal, nth_solid}
use Rattle.fr_calls.specs.FrCalls.{fr_to_cardinal, fr_to_ordinal}
use Rattle.yokepear.specs.Calls.{SpellingCall, spelling_of, to_cardinal, to_ordinal, to_ordinal_num, to_year, to_currency, to_french_cardinal, to_french_ordinal}

-- of each kind
module _ (S : Settings) (t : List ℕ) where
  cardinal : (uk_to_cardinal S t).refusal ≡ 0 → Solid (uk_to_cardinal S t).phrase
  cardinal e =
      let u = unrefused {rs = ukrainian_ranges S} {cs = cardinal_refusals ukrainian_digit_limit t} e in
      ukrainian_cardinal S u.settings (negative t) (value (unsigned t)) (passed_held 22 t (passed (well_formed t) false (length (unsigned t)) 66 u.others))

  ordinal : (uk_to_ordinal S t).refusal ≡ 0 → Solid (uk_to_ordinal S t).phrase
  ordinal e =
      let u = unrefused {rs = ukrainian_ranges S} {cs = ordinal_refusals ukrainian_digit_limit t} e in
      joined_solid space (ordinal_words S (value (unsigned t))) (ordinal_solid S u.settings (value (unsigned t)))

  digit_ordinal_lem : (uk_to_ordinal_num S t).refusal ≡ 0 → Solid (uk_to_ordinal_num S t).phrase
  digit_ordinal_lem e =
      let u = unrefused {rs = ukrainian_ranges S} {cs = digit_ordinal_refusals t} e in
      let d = digit_ordinal_digits t u.others in
      digit_ordinal_solid S u.settings t d.0 d.1

  money : (code : List ℕ) → (uk_to_currency S code t).refusal ≡ 0 → Solid (uk_to_currency S code t).phrase
  money code = go (currency_of code) refl
    where
      go : (c : Option Currency) → currency_of code ≡ c → (amount_spelling S c t).refusal ≡ 0 → Solid (amount_spelling S c t).phrase
      go none i e = absurd (omega (arith, (unrefused {rs = ukrainian_ranges S} {cs = unknown none ∷ amount_refusals t} e).others))
      go (some c) i e = money_solid S (unrefused {rs = ukrainian_ranges S} {cs = unknown (some c) ∷ amount_refusals t} e).settings code c i (whole_of t) (hundredths_of t)

  french_cardinals : (fr_to_cardinal S t).refusal ≡ 0 → Solid (fr_to_cardinal S t).phrase
  french_cardinals e =
      let u = unrefused {rs = french_ranges S} {cs = cardinal_refusals french_digit_limit t} e in
      french_cardinal S (negative t) (value (unsigned t)) (passed_held 34 t (passed (well_formed t) false (length (unsigned t)) 102 u.others))

  french_ordinal : (fr_to_ordinal S t).refusal ≡ 0 → Solid (fr_to_ordinal S t).phrase
  french_ordinal e =
      let u = unrefused {rs = french_ranges S} {cs = ordinal_refusals french_digit_limit t} e in
      nth_solid S (value (unsigned t)) (passed_held 34 t (passed (well_formed t) (negative t) (length (unsigned t)) 102 u.others))

year : (S : Settings) (y : ℤ) → (uk_to_year S y).refusal ≡ 0 → Solid (uk_to_year S y).phrase
year S y e = joined_solid space (year_words S y) (year_words_solid S (in_range (ukrainian_ranges S) e) y)

-- of every call
phrase_solid : (call : SpellingCall) → (spelling_of call).refusal ≡ 0 → Solid (spelling_of call).phrase
phrase_solid (to_cardinal gender number case apostrophe style text) = cardinal (ukrainian_settings gender number case apostrophe style) text
phrase_solid (to_ordinal gender number case apostrophe style text) = ordinal (ukrainian_settings gender number case apostrophe style) text
phrase_solid (to_ordinal_num gender number case apostrophe style text) = digit_ordinal_lem (ukrainian_settings gender number case apostrophe style) text
phrase_solid (to_year gender number case apostrophe style y) = year (ukrainian_settings gender number case apostrophe style) y
phrase_solid (to_currency gender number case apostrophe style code text) = money (ukrainian_settings gender number case apostrophe style) text code
phrase_solid (to_french_cardinal feminine reformed region text) = french_cardinals (french_settings feminine reformed region) text
phrase_solid (to_french_ordinal feminine reformed region text) = french_ordinal (french_settings feminine reformed region) text

-- a phrase that is spelled is never empty, and neither is any of its words: what spaces divide it into
pub no_word_empty : (call : SpellingCall) → (spelling_of call).refusal ≡ 0 → NoneEmpty (divided space (spelling_of call).phrase)
no_word_empty call e = solid_parts (phrase_solid call e)

pub phrase_not_empty : (call : SpellingCall) → (spelling_of call).refusal ≡ 0 → 0 < length (spelling_of call).phrase
phrase_not_empty call e = solid_some (phrase_solid call e)
