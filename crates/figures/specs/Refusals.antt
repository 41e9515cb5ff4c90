-- What is refused of a text, as conditions with their numbers in the order of 01's table ("Where each refusal arises": number text, sign, size; limits
-- of "Number texts").
-- Assumes nothing.
use Rattle.std.specs.Prelude.{◌≡◌, ℕ, Bool, not, List, [], ◌∷◌, length, nat_lt}
use Rattle.base.specs.Answer.{malformed, wrong_sign, too_large, first_of}
use Rattle.figures.specs.Text.{value, negative, unsigned, well_formed}
use Rattle.figures.specs.Money.{whole_of, money_formed, money_limit}
use Rattle.figures.specs.Year.{year_limit}

-- the most digits of a number text: "Ukrainian: at most 66 digits (22 groups). French: 102 (34 groups)."
abbrev pub ukrainian_digit_limit : ℕ
ukrainian_digit_limit = 66

abbrev pub french_digit_limit : ℕ
french_digit_limit = 102

-- of a cardinal's text, of at most so many digits
abbrev pub cardinal_refusals : ℕ → List ℕ → List (Bool × ℕ)
cardinal_refusals most t = (not (well_formed t), malformed) ∷ (nat_lt most (length (unsigned t)), too_large) ∷ []

-- of an ordinal's, which is "not negative"
abbrev pub ordinal_refusals : ℕ → List ℕ → List (Bool × ℕ)
ordinal_refusals most t = (not (well_formed t), malformed) ∷ (negative t, wrong_sign) ∷ (nat_lt most (length (unsigned t)), too_large) ∷ []

-- the largest digit ordinal: "at most 340,282,366,920,938,463,463,374,607,431,768,211,455"
abbrev pub digit_ordinal_limit : ℕ
digit_ordinal_limit = 340282366920938463463374607431768211455

-- of a digit ordinal's
abbrev pub digit_ordinal_refusals : List ℕ → List (Bool × ℕ)
digit_ordinal_refusals t = (not (well_formed t), malformed) ∷ (negative t, wrong_sign) ∷ (nat_lt digit_ordinal_limit (value (unsigned t)), too_large) ∷ []

-- of an amount's, by its whole part
abbrev pub amount_refusals : List ℕ → List (Bool × ℕ)
amount_refusals t = (not (money_formed t), malformed) ∷ (negative t, wrong_sign) ∷ (nat_lt money_limit (whole_of t), too_large) ∷ []

-- of a year's ("The program phrases": "A malformed year is refused 3, one beyond 64 signed bits 5")
abbrev pub year_refusals : List ℕ → List (Bool × ℕ)
year_refusals t = (not (well_formed t), malformed) ∷ (nat_lt (year_limit (negative t)) (value (unsigned t)), too_large) ∷ []

-- none of these conditions holds ("Phrase grammar and reader": "A text is admitted for a kind if none of the conditions 3 to 5 holds of it")
abbrev pub Admitted : List (Bool × ℕ) → Type 0
Admitted conditions = first_of conditions ≡ 0
