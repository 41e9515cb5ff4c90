-- What the reader promises of numbers, by spelling alone: a phrase means the one text that is spelled so.
-- Assumes nothing.
use Prim.Native.Nat.{ℕ, zero, suc, ◌-◌, ◌^◌, ◌<◌, ◌≤◌}
use mathlib.Core.Path.{◌≡◌, refl, sym, ap, ◌∙◌, subst}
use mathlib.Core.Bool.{Bool, true, false, not, cond, ◌||◌}
use mathlib.Core.List.{List, [], ◌∷◌, ◌++◌}
use native.Mathlib.Omega.{arith}
use native.Mathlib.Nat.{lt_of_le_of_lt}
use borrow.Author.Tests.{ne_eqb, ltb-true, ltb-false, le-ltb}
use lib.Dec.{eqb, ltb}
use Rattle.tables.proofs.Tests.{clash, clash_of}
use Rattle.base.specs.Answer.{wrong_setting, malformed, too_large, first_of, Reply}
use Rattle.base.specs.Reading.{Replies, earlier, sentence, otherwise, Reads}
use Rattle.base.specs.declared.Answer.{Answer}
use Rattle.base.specs.Join.{joined}
use Rattle.base.proofs.Closing.{Readable}
use Rattle.settings.specs.Settings.{masculine, ukrainian_ranges, within, Within, in_gender}
use Rattle.settings.specs.Refused.{out_of_range}
use Rattle.settings.specs.Settings.{Settings}
use Rattle.settings.proofs.Ranges.{Unrefused, unrefused}
use Rattle.figures.specs.Text.{value, negative, unsigned, well_formed}
use Rattle.figures.specs.Refusals.{ukrainian_digit_limit, ordinal_refusals, year_refusals, Admitted}
use Rattle.figures.specs.Value.{IsNumber, NumberMeans}
use Rattle.figures.specs.Written.{signed_decimal}
use Rattle.figures.specs.Year.{year_of, year_limit}
use Rattle.figures.proofs.Laws.Sign.{zero_plain_lem, number_is_lem}
use Rattle.numerals.proofs.Readings.{Bounded}
use Rattle.cardinals.proofs.Inverse as laws
use Rattle.cardinals.proofs.Inverse.{OnePhrase}
use Rattle.uk_ordinal.specs.Ordinal.{school, ordinal_words}
use Rattle.uk_ordinal.specs.Year.{year_noun, era_words}
use Rattle.uk_ordinal_read.specs.Guess.{ordinal_number, seems_early, year_ordinal}
use Rattle.uk_ordinal_read.specs.Promise.{SaysOrdinal, signed_year, SaysYear}
use Rattle.uk_ordinal_read.proofs.Guessed.{ordinal_guessed, year_guessed}
use Rattle.uk_ordinal_read.proofs.Answers.{year_phrase, year_small}
use Rattle.uk_ordinal_calls.specs.UkOrdinals.{uk_to_ordinal, uk_to_year, year_text, reading_refusal}

-- a reading call that refuses nothing has its settings in their ranges, and the style of school
module _ (S : Settings) (v : reading_refusal S ≡ 0) where
  in_ranges : Unrefused (ukrainian_ranges S) ((not (school S), wrong_setting) ∷ [])
  in_ranges = unrefused {rs = ukrainian_ranges S} {cs = (not (school S), wrong_setting) ∷ []} v

  pub read_settings : Within (ukrainian_ranges S)
  read_settings = in_ranges.settings

  pub read_school : school S ≡ true
  read_school = go (school S) in_ranges.others
    where
      go : (b : Bool) → cond (not b) wrong_setting 0 ≡ 0 → b ≡ true
      go true e = refl
      go false e = absurd (omega arith)

  -- so its settings make a record
  pub read_test : within (ukrainian_ranges S) ≡ true
  read_test = in_ranges.test

  -- and a spelling call refuses what the conditions behind its settings do
  pub behind : (cs : List (Bool × ℕ)) → first_of (out_of_range (ukrainian_ranges S) ∷ cs) ≡ first_of cs
  behind cs = rw in_ranges.test refl

-- a number's phrase
pub ordinal_phrases : (S : Settings) → OnePhrase (SaysOrdinal S) (λ (m : Bool) (n : ℕ). joined (ordinal_words S n)) (λ (m : Bool). m) 22
ordinal_phrases S = record {
  says = λ m n h z f. record { unsigned = f; held = h; spelled = refl };
  small = λ w. w.held;
  phrased = λ w. w.spelled;
  signed = λ w. w.unsigned;
}

module _ (S : Settings) (v : reading_refusal S ≡ 0) where
  abbrev OrdinalText : List ℕ → Type 0
  OrdinalText t = Admitted (ordinal_refusals ukrainian_digit_limit t)

  -- what is found again
  found : (s : List ℕ) (m : Bool) (n : ℕ) → SaysOrdinal S s m n → (false ≡ m) × (ordinal_number S s ≡ n)
  found s m n w = (sym w.unsigned, rw (← w.spelled) (ordinal_guessed S (read_settings S v) (read_school S v) n w.held))

  pub ordinal_texts : Readable OrdinalText (λ (t : List ℕ). (uk_to_ordinal S t).phrase) (λ (s t : List ℕ). NumberMeans (SaysOrdinal S s) t)
  ordinal_texts = laws.readable (ordinal_phrases S) (omega arith) (omega arith) (λ (s : List ℕ). false) (ordinal_number S) found

-- no ordinal has more digits than a text, nor a sign
pub ordinal_bounded : (S : Settings) (s : List ℕ) → Bounded (SaysOrdinal S s)
ordinal_bounded S s = record { small = λ p. laws.few_digits (ordinal_phrases S) (omega arith) (omega arith) p; some = λ p. clash p.unsigned }

-- a kind whose meaning is given by spelling, where it is that of numbers too
module _ {IsAdmitted : List ℕ → Type 0} {phrase : List ℕ → List ℕ} {Means : List ℕ → List ℕ → Type 0} (R : Readable IsAdmitted phrase Means) where
  abbrev Spelled : List ℕ → List ℕ → Type 0
  Spelled s t = IsAdmitted t × (phrase t ≡ s)

  means : (s t : List ℕ) → Spelled s t → Means s t
  means s t p = subst (λ (x : List ℕ). Means x t) p.1 (R.phrase_means t p.0)

  pub by_spelling_lem : Readable IsAdmitted phrase (λ (s t : List ℕ). IsAdmitted t × (phrase t ≡ s))
  by_spelling_lem = record { phrase_means = λ t a. (a, refl); means_phrase = λ s t m. m; one_value = λ s t u p q. R.one_value s t u (means s t p) (means s u q) }

  -- what is answered by one meaning is by the other
  pub answered_so : {refusal : ℕ} {s : List ℕ} {r : Answer} {xs ys : List ℕ} → Reads (record { refusal = refusal; Means = Means }) s r xs ys
      → Reads (record { refusal = refusal; Means = λ (s t : List ℕ). IsAdmitted t × (phrase t ≡ s) }) s r xs ys
  answered_so {refusal} {s} {r} {xs} {ys} p = record { reply = p.reply; is_reply = go p.is_reply; is_answer = p.is_answer }
    where
      go : {reply : Reply} → Replies (record { refusal = refusal; Means = Means }) s xs reply → Replies (record { refusal = refusal; Means = λ (s t : List ℕ). IsAdmitted t × (phrase t ≡ s) }) s xs reply
      go (earlier f) = earlier f
      go (sentence z t m) = sentence z t (R.means_phrase s t m)
      go (otherwise z f) = otherwise z (λ t m. f t (means s t m))

-- the sign of a year that is, or is not, early
year_sign_lem : (m : Bool) (n : ℕ) → (n ≡ 0 → m ≡ false) → cond (eqb n 0) false (m || eqb n 0) ≡ m
year_sign_lem m zero z = sym (z refl)
year_sign_lem true (suc n) z = rw (ne_eqb (suc n) 0 (λ e. omega arith)) refl
year_sign_lem false (suc n) z = rw (ne_eqb (suc n) 0 (λ e. omega arith)) refl

-- a year's text that is not refused, and the other way round
pub year_fine : (t : List ℕ) → Admitted (year_refusals t) → (well_formed t ≡ true) × (value (unsigned t) ≤ year_limit (negative t))
year_fine t e = go (well_formed t) (ltb (year_limit (negative t)) (value (unsigned t))) refl refl e
  where
    go : (w l : Bool) → well_formed t ≡ w → ltb (year_limit (negative t)) (value (unsigned t)) ≡ l → cond (not w) malformed (cond l too_large 0) ≡ 0
        → (well_formed t ≡ true) × (value (unsigned t) ≤ year_limit (negative t))
    go false l p q r = absurd (omega arith)
    go true true p q r = absurd (omega arith)
    go true false p q r = (p, ltb-false (year_limit (negative t)) (value (unsigned t)) q)

pub year_admitted : {m : Bool} {n : ℕ} {t : List ℕ} → IsNumber m n t → n ≤ year_limit m → Admitted (year_refusals t)
year_admitted {m} {n} {t} x h = rw (x.formed, le-ltb (year_limit (negative t)) (value (unsigned t)) (rw (x.sign, x.means) h)) refl

-- a year's magnitude has few digits
year_digits : (m : Bool) (n : ℕ) → n ≤ year_limit m → n < 10 ^ 102
year_digits m n h = lt_of_le_of_lt h (go m)
  where
    go : (m : Bool) → year_limit m < 10 ^ 102
    go true = ltb-true (2 ^ 63) (10 ^ 102) refl
    go false = ltb-true (2 ^ 63 - 1) (10 ^ 102) refl

pub year_bounded : (S : Settings) (s : List ℕ) → Bounded (SaysYear S s)
year_bounded S s = record { small = λ {m} {n} p. year_digits m n p.held; some = λ {n} p. some n p.zero_plain }
  where
    some : (n : ℕ) → (n ≡ 0 → true ≡ false) → 0 < n
    some zero z = clash (z refl)
    some (suc n) z = omega arith

module _ (S : Settings) (v : reading_refusal S ≡ 0) where
  abbrev M : Settings
  M = in_gender masculine S

  -- the magnitude and the sign that are made of bytes
  pub year_number : List ℕ → ℕ
  year_number s = ordinal_number M (year_ordinal S (seems_early s) s)

  pub year_sign : List ℕ → Bool
  year_sign s = cond (eqb (year_number s) 0) false (seems_early s)

  pub found_year : (s : List ℕ) (m : Bool) (n : ℕ) → SaysYear S s m n → (year_sign s ≡ m) × (year_number s ≡ n)
  unfolding year_sign year_number
  found_year s m n w =
      let e : joined (ordinal_words M n ++ (year_noun S ∷ era_words (m || eqb n 0))) ≡ s = sym (year_phrase S m n) ∙ w.spelled in
      let g = year_guessed S (read_settings S v) (read_school S v) (m || eqb n 0) n (year_small S m n w.held) in
      let early : seems_early s ≡ (m || eqb n 0) = rw e at g.0 in
      let number : ordinal_number M (year_ordinal S (m || eqb n 0) s) ≡ n = rw e at g.1 in
      (rw (early, number) (year_sign_lem m n w.zero_plain), rw early number)

  abbrev YearText : List ℕ → Type 0
  YearText t = Admitted (year_refusals t)

  text_says : (t : List ℕ) → YearText t → NumberMeans (SaysYear S (year_text S t).phrase) t
  text_says t a =
      let f = year_fine t a in
      record {
        minus = negative t;
        magnitude = value (unsigned t);
        says = record { zero_plain = zero_plain_lem t f.0; held = f.1; spelled = refl };
        valued = record { formed = f.0; sign = refl; means = refl };
      }

  -- a text is the one of its sign and its number
  year_is : (s t : List ℕ) → NumberMeans (SaysYear S s) t → t ≡ signed_decimal (year_sign s) (year_number s)
  year_is s t m =
      let e = found_year s m.minus m.magnitude m.says in
      rw (e.0, e.1) (number_is_lem m.valued (year_digits m.minus m.magnitude m.says.held))

  pub year_texts : Readable YearText (λ (t : List ℕ). (year_text S t).phrase) (λ (s t : List ℕ). NumberMeans (SaysYear S s) t)
  year_texts = record {
    phrase_means = text_says;
    means_phrase = λ s t m. (year_admitted m.valued m.says.held, rw (m.valued.means, m.valued.sign) m.says.spelled);
    one_value = λ s t u p q. year_is s t p ∙ sym (year_is s u q);
  }
