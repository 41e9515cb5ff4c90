-- Demand 3 for Ukrainian ordinals and years as taught in school, over the calls' definitions: a phrase is read as the one text that is spelled so.
-- Assumes nothing.
use Prim.Native.Nat.{ℕ, zero, suc, ◌^◌, ◌<◌, ◌≤◌}
use mathlib.Core.Path.{◌≡◌, refl, sym, ap, ◌∙◌, subst}
use mathlib.Core.Bool.{Bool, true, false, cond}
use mathlib.Core.List.{List}
use native.Mathlib.Omega.{arith}
use lib.IntN.{ℤ, pos, negsuc, neg_ℤ, nat_abs}
use lib.ListN.{length}
use Rattle.base.specs.Answer.{no_sentence, Reply, fitted, Answers}
use Rattle.base.specs.Claim.{Inverse}
use Rattle.base.specs.Join.{joined}
use Rattle.base.specs.Reading.{Reading, Replies, earlier, sentence, otherwise, Reads}
use Rattle.base.specs.declared.Answer.{Answer}
use Rattle.base.proofs.Closing as closing
use Rattle.settings.specs.Settings.{Settings}
use Rattle.figures.specs.Text.{value, negative, unsigned, well_formed}
use Rattle.figures.specs.Refusals.{ukrainian_digit_limit, ordinal_refusals, year_refusals, Admitted}
use Rattle.figures.specs.Written.{signed_decimal}
use Rattle.figures.specs.Year.{year_of, year_limit, Signed64}
use Rattle.figures.proofs.Laws.Refusals.{passed, passed_held}
use Rattle.figures.proofs.Laws.Sign.{number_text}
use Rattle.uk_ordinal.specs.Ordinal.{ordinal_words}
use Rattle.uk_ordinal.specs.Year.{year_words}
use Rattle.uk_ordinal_read.specs.Guess.{ordinal_number}
use Rattle.uk_ordinal_read.specs.Promise.{signed_year, SaysYear}
use Rattle.uk_ordinal_read.proofs.Guessed.{ordinal_guessed}
use Rattle.uk_ordinal_calls.specs.UkOrdinals.{uk_to_ordinal, uk_to_year, year_text, uk_from_ordinal, uk_from_year}
use Rattle.uk_ordinal_calls.proofs.Spelled.{read_settings, read_school, behind, ordinal_texts, year_fine, year_admitted, year_bounded, year_number, year_sign, found_year, year_texts, by_spelling_lem}

pub ordinals : (S : Settings) → (uk_from_ordinal S).refusal ≡ 0 → Inverse (λ (t : List ℕ). Admitted (ordinal_refusals ukrainian_digit_limit t)) (uk_to_ordinal S) (uk_from_ordinal S)
ordinals S v =
    closing.inverse v (λ t a. behind S v (ordinal_refusals ukrainian_digit_limit t) ∙ a) (λ t a. sym (behind S v (ordinal_refusals ukrainian_digit_limit t)) ∙ a) (by_spelling_lem (ordinal_texts S v))

pub years : (S : Settings) → (uk_from_year S).refusal ≡ 0 → Inverse (λ (t : List ℕ). Admitted (year_refusals t)) (year_text S) (uk_from_year S)
years S v = closing.inverse v (λ t a. behind S v (year_refusals t) ∙ a) (λ t a. sym (behind S v (year_refusals t)) ∙ a) (by_spelling_lem (year_texts S v))

-- "each phrase comes, under given settings, from one number only": of ordinals, and of years
pub one_ordinal : (S : Settings) → (uk_from_ordinal S).refusal ≡ 0 → (m n : ℕ) → m < 10 ^ ukrainian_digit_limit → n < 10 ^ ukrainian_digit_limit → joined (ordinal_words S m) ≡ joined (ordinal_words S n) → m ≡ n
one_ordinal S v m n h k e =
    let guess = ordinal_guessed S (read_settings S v) (read_school S v) in
    sym (guess m h) ∙ ap (ordinal_number S) e ∙ guess n k

-- a year as its sign and its magnitude
is_negative : ℤ → Bool
is_negative (pos n) = false
is_negative (negsuc n) = true

year_again : (y : ℤ) → signed_year (is_negative y) (nat_abs y) ≡ y
unfolding is_negative
year_again (pos n) = refl
year_again (negsuc n) = refl

year_says : (S : Settings) (y : ℤ) → Signed64 y → SaysYear S (uk_to_year S y).phrase (is_negative y) (nat_abs y)
unfolding is_negative
year_says S (pos n) h = record { zero_plain = λ z. refl; held = h; spelled = refl }
year_says S (negsuc n) h = record { zero_plain = λ z. absurd (omega arith); held = h; spelled = refl }

pub one_year : (S : Settings) → (uk_from_year S).refusal ≡ 0 → (y z : ℤ) → Signed64 y → Signed64 z → (uk_to_year S y).phrase ≡ (uk_to_year S z).phrase → y ≡ z
one_year S v y z h k e =
    let p = found_year S v (uk_to_year S y).phrase (is_negative y) (nat_abs y) (year_says S y h) in
    let q = found_year S v (uk_to_year S z).phrase (is_negative z) (nat_abs z) (year_says S z k) in
    let sign : is_negative y ≡ is_negative z = sym p.0 ∙ ap (year_sign S v) e ∙ q.0 in
    let size : nat_abs y ≡ nat_abs z = sym p.1 ∙ ap (year_number S v) e ∙ q.1 in
    sym (year_again y) ∙ rw (sign, size) refl ∙ year_again z

-- "and reading finds it": the answer to the phrase of a year is the number text of that year
pub year_read_back : (S : Settings) → (uk_from_year S).refusal ≡ 0 → (y : ℤ) → Signed64 y → {r : Answer} {xs ys : List ℕ} → Reads (uk_from_year S) (uk_to_year S y).phrase r xs ys
    → (t : List ℕ) × Admitted (year_refusals t) × (year_of t ≡ y) × Answers r xs ys (fitted xs t)
year_read_back S v y h {r} {xs} {ys} p =
    let w = year_says S y h in
    let t = signed_decimal (is_negative y) (nat_abs y) in
    let x = number_text (is_negative y) (nat_abs y) ((year_bounded S (uk_to_year S y).phrase).small w) (λ e. (year_bounded S (uk_to_year S y).phrase).some (rw e at w)) in
    let a = year_admitted x w.held in
    let e : year_of t ≡ y = rw (x.sign, x.means) (year_again y) in
    (t, a, e, (years S v).read_as t a (subst (λ (z : ℤ). Reads (uk_from_year S) (uk_to_year S z).phrase r xs ys) (sym e) p))

-- "a phrase that style 1 spells under those settings for no number is 6": of any kind that is read by spelling
six : (R : Reading) {s : List ℕ} {r : Answer} {xs ys : List ℕ} → R.refusal ≡ 0 → ((t : List ℕ) → R.Means s t → ⊥) → Reads R s r xs ys → r.number ≡ no_sentence
six R {s} {r} {xs} {ys} v f p = go p.is_reply p.is_answer
  where
    go : {reply : Reply} → Replies R s xs reply → Answers r xs ys reply → r.number ≡ no_sentence
    go (earlier z) a = absurd (z v)
    go (sentence z t m) a = absurd (f t m)
    go (otherwise z g) a = a.reported

pub unspelled_six : (S : Settings) {s : List ℕ} {r : Answer} {xs ys : List ℕ} → (uk_from_ordinal S).refusal ≡ 0
    → ((n : ℕ) → n < 10 ^ ukrainian_digit_limit → joined (ordinal_words S n) ≡ s → ⊥) → Reads (uk_from_ordinal S) s r xs ys → r.number ≡ no_sentence
unspelled_six S v f p = six (uk_from_ordinal S) v (λ t m. f (value (unsigned t)) (held t m.0) m.1) p
  where
    held : (t : List ℕ) → Admitted (ordinal_refusals ukrainian_digit_limit t) → value (unsigned t) < 10 ^ ukrainian_digit_limit
    held t a = passed_held 22 t (passed (well_formed t) (negative t) (length (unsigned t)) 66 a)

-- a text that is a year's means a number of 64 signed bits
year_held : (t : List ℕ) → Admitted (year_refusals t) → Signed64 (year_of t)
year_held t a = let f = year_fine t a in go (negative t) (value (unsigned t)) f.1
  where
    go : (m : Bool) (n : ℕ) → n ≤ year_limit m → Signed64 (cond m (neg_ℤ (pos n)) (pos n))
    go false n h = h
    go true zero h = omega arith
    go true (suc n) h = h

pub unspelled_year_six : (S : Settings) {s : List ℕ} {r : Answer} {xs ys : List ℕ} → (uk_from_year S).refusal ≡ 0
    → ((y : ℤ) → Signed64 y → (uk_to_year S y).phrase ≡ s → ⊥) → Reads (uk_from_year S) s r xs ys → r.number ≡ no_sentence
unspelled_year_six S v f p = six (uk_from_year S) v (λ t m. f (year_of t) (year_held t m.0) m.1) p
