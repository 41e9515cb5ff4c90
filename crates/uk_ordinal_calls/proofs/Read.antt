-- The settings under which ordinals and years are read, and what is read, answered.
-- Assumes nothing.
use Rattle.std.proofs.Common.{◌≡◌, ℕ, List, Ok, Err, Option, refl}
use Rattle.base.specs.Answer.{wrong_setting, Answers}
use Rattle.base.specs.Reading.{Reads}
use Rattle.base.specs.declared.Answer.{Answer}
use Rattle.base.specs.declared.Refusal.TheVariants.{WrongSetting}
use Rattle.settings.specs.Settings.{Settings}
use Rattle.settings.specs.Chosen.{numbers_of, Chooses}
use Rattle.settings.specs.declared.ukrainian.Style.TheVariants.{Ported, School}
use Rattle.settings.specs.declared.ukrainian.Ukrainian.{Ukrainian}
use Rattle.settings.proofs.Handed.{numbers_within}
use Rattle.groups.specs.Read.{ReadOf}
use Rattle.groups.specs.declared.figure.Figure.{Figure}
use Rattle.numerals.specs.Reading.{answered}
use Rattle.numerals.proofs.Readings.{read_right}
use Rattle.uk_ordinal_read.specs.Promise.{SaysOrdinal, SaysYear}
use Rattle.uk_ordinal_calls.specs.Read.{ChoosesSchool}
use Rattle.uk_ordinal_calls.specs.UkOrdinals.{reading_refusal, uk_from_ordinal, uk_from_year}
use Rattle.uk_ordinal_calls.proofs.Spelled.{ordinal_texts, ordinal_bounded, year_texts, year_bounded, answered_so}

-- settings that are chosen are read in the style of school, and refused in the other
module _ (s : Ukrainian) (S : Settings) (c : Chooses (Ok s) S) where
  read_in : s.style ≡ School → reading_refusal S ≡ 0
  read_in e = rw (← c.chosen s refl) (rw (numbers_within s, e) refl)

  not_read_in : s.style ≡ Ported → reading_refusal S ≡ wrong_setting
  not_read_in e = rw (← c.chosen s refl) (rw (numbers_within s, e) refl)

  pub chooses_school : s.style ≡ School → ChoosesSchool (Ok s) S
  chooses_school e = record { chosen = λ t i. let k : s ≡ t = cc in rw (← k) (c.chosen s refl, read_in e); refused = λ f i. absurd (cc) }

  pub chooses_ported : s.style ≡ Ported → ChoosesSchool (Err WrongSetting) S
  chooses_ported e = record { chosen = λ t i. absurd (cc); refused = λ f i. (cc, not_read_in e) }

module _ {N : ℕ} (s : Ukrainian) (S : Settings) (t xs ys : List ℕ) (r : Answer) (read : Option (Figure N)) (c : ChoosesSchool (Ok s) S) (a : Answers r xs ys (answered read xs)) where
  pub ordinal_read : ReadOf (SaysOrdinal (numbers_of s) t) read → Reads (uk_from_ordinal S) t r xs ys
  ordinal_read p =
      let k = c.chosen s refl in
      answered_so (ordinal_texts S k.1) (read_right (SaysOrdinal S) _ k.1 t xs ys r (ordinal_bounded S t) read (rw k.0 at p) a)

  pub year_read : ReadOf (SaysYear (numbers_of s) t) read → Reads (uk_from_year S) t r xs ys
  year_read p =
      let k = c.chosen s refl in
      answered_so (year_texts S k.1) (read_right (SaysYear S) _ k.1 t xs ys r (year_bounded S t) read (rw k.0 at p) a)
