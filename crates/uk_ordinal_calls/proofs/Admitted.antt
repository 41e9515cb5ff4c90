-- What a refusal of 0 tells of a text; early years.
-- Assumes nothing.
use Prim.Native.Nat.{ℕ, ◌≤◌, ◌<◌}
use mathlib.Core.Path.{◌≡◌, refl, sym, ap, ◌∙◌}
use mathlib.Core.Bool.{Bool, true, false}
use mathlib.Core.List.{List, ◌∷◌, ◌++◌}
use native.Mathlib.Omega.{arith}
use native.Mathlib.Nat.{lt_of_le_of_lt}
use lib.Dec.{lit<}
use lib.IntN.{ℤ, nat_abs}
use lib.ListN.{length}
use Rattle.std.proofs.lemmas.Grind.{common_steps}
use Rattle.std.proofs.lemmas.Int.{to_z-of_z}
use Rattle.base.specs.Join.{joined}
use Rattle.settings.specs.Settings.{masculine, in_gender, within}
use Rattle.settings.specs.Settings.{Settings}
use Rattle.figures.specs.Text.{digits, plain, value, well_formed, negative, unsigned}
use Rattle.figures.specs.Refusals.{ordinal_refusals, digit_ordinal_limit, digit_ordinal_refusals, Admitted}
use Rattle.figures.proofs.Laws.Plain.{plain_digits, plain_some}
use Rattle.figures.proofs.Laws.Sign.{unsigned_plain, formed_unsigned, plain_size}
use Rattle.figures.proofs.Laws.Refusals.{passed}
use Rattle.uk_ordinal.specs.Ordinal.{ordinal_words}
use Rattle.uk_ordinal.specs.Year.{early, era_words, year_noun, year_words}

-- a text without a sign
plain_text : (xs : List ℕ) → well_formed xs ≡ true → negative xs ≡ false → plain xs ≡ true
plain_text xs f n = sym (ap plain (unsigned_plain xs n)) ∙ formed_unsigned xs f

pub ordinal_digits : (xs : List ℕ) → Admitted (ordinal_refusals 66 xs) → (plain xs ≡ true) × (length xs ≤ 66)
ordinal_digits xs e =
    let a = passed (well_formed xs) (negative xs) (length (unsigned xs)) 66 e in
    (plain_text xs a.formed a.sign, rw (unsigned_plain xs a.sign) at a.within)

pub digit_ordinal_digits : (xs : List ℕ) → Admitted (digit_ordinal_refusals xs) → (digits xs ≡ true) × (0 < length xs) × (length xs ≤ 39)
digit_ordinal_digits xs e =
    let a = passed (well_formed xs) (negative xs) (value (unsigned xs)) digit_ordinal_limit e in
    let p = plain_text xs a.formed a.sign in
    let w : value xs ≤ digit_ordinal_limit = rw (unsigned_plain xs a.sign) at a.within in
    (plain_digits xs p, plain_some xs p, plain_size xs 39 p (omega arith) (lt_of_le_of_lt w (lit< tt)))

-- what is said of a year's magnitude
pub year_said : (S : Settings) (n : ℕ) (is_early : Bool) (y : ℤ) → is_early ≡ early y → n ≡ nat_abs y
    → joined (ordinal_words (in_gender masculine S) n ++ (year_noun S ∷ era_words is_early)) ≡ joined (year_words S y)
unfolding year_words
year_said S n is_early y e f = rw (e, f) refl

-- a year that is handed on is the same year
pub ruleset year_laws = (common_steps, to_z-of_z, year_said)
