-- Ordinals and years as taught in school (02, W3): each phrase comes from one number only, and bytes that come from none are 6. Of the reading call only
-- its contract is known: r is any answer to the bytes s, for a buffer xs left as ys, that it allows.
-- Assumes nothing.
use Prim.Native.Nat.{ℕ, ◌^◌, ◌<◌}
use mathlib.Core.Path.{◌≡◌}
use mathlib.Core.List.{List}
use lib.IntN.{ℤ}
use Rattle.base.specs.Answer.{no_sentence, fitted, Answers}
use Rattle.base.specs.Join.{joined}
use Rattle.base.specs.Reading.{Reads}
use Rattle.base.specs.declared.Answer.{Answer}
use Rattle.settings.specs.Settings.{school_style, ukrainian_settings}
use Rattle.settings.specs.Settings.{Settings}
use Rattle.figures.specs.Refusals.{ukrainian_digit_limit, year_refusals, Admitted}
use Rattle.figures.specs.Year.{year_of, Signed64}
use Rattle.uk_ordinal.specs.Ordinal.{ordinal_words}
use Rattle.uk_ordinal_calls.proofs.Theorem as uk_ordinal_theorem
use Rattle.yokepear.specs.Calls.{to_year, spelling_of, from_ordinal, from_year, reading_of}

module _ (gender number case apostrophe : ℕ) where
  abbrev S : Settings
  S = ukrainian_settings gender number case apostrophe school_style

  -- ordinals of up to 66 digits
  module _ (valid : (reading_of (from_ordinal gender number case apostrophe school_style)).refusal ≡ 0) where
    pub one_ordinal : (m n : ℕ) → m < 10 ^ ukrainian_digit_limit → n < 10 ^ ukrainian_digit_limit → joined (ordinal_words S m) ≡ joined (ordinal_words S n) → m ≡ n
    one_ordinal = uk_ordinal_theorem.one_ordinal S valid

    pub unspelled_six : {s xs ys : List ℕ} {r : Answer} → ((n : ℕ) → n < 10 ^ ukrainian_digit_limit → joined (ordinal_words S n) ≡ s → ⊥)
        → Reads (reading_of (from_ordinal gender number case apostrophe school_style)) s r xs ys → r.number ≡ no_sentence
    unspelled_six = uk_ordinal_theorem.unspelled_six S valid

  -- years of 64 signed bits
  module _ (valid : (reading_of (from_year gender number case apostrophe school_style)).refusal ≡ 0) where
    pub one_year : (y z : ℤ) → Signed64 y → Signed64 z
        → (spelling_of (to_year gender number case apostrophe school_style y)).phrase ≡ (spelling_of (to_year gender number case apostrophe school_style z)).phrase → y ≡ z
    one_year = uk_ordinal_theorem.one_year S valid

    -- a year is read back as its text
    pub year_read_back : (y : ℤ) → Signed64 y → {xs ys : List ℕ} {r : Answer}
        → Reads (reading_of (from_year gender number case apostrophe school_style)) (spelling_of (to_year gender number case apostrophe school_style y)).phrase r xs ys
        → (t : List ℕ) × Admitted (year_refusals t) × (year_of t ≡ y) × Answers r xs ys (fitted xs t)
    year_read_back y h p = uk_ordinal_theorem.year_read_back S valid y h p

    pub unspelled_year_six : {s xs ys : List ℕ} {r : Answer} → ((y : ℤ) → Signed64 y → (spelling_of (to_year gender number case apostrophe school_style y)).phrase ≡ s → ⊥)
        → Reads (reading_of (from_year gender number case apostrophe school_style)) s r xs ys → r.number ≡ no_sentence
    unspelled_year_six = uk_ordinal_theorem.unspelled_year_six S valid
