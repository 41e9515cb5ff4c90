-- The numbers that calls answer with (01, "Where each refusal arises"), over all calls.
-- Assumes nothing.
use Prim.Native.Nat.{ℕ, zero, suc, ◌≤◌}
use mathlib.Core.Path.{◌≡◌, refl}
use mathlib.Core.Bool.{Bool, true, false, cond, not}
use mathlib.Core.Logic.{inl, inr}
use mathlib.Core.List.{List, [], ◌∷◌}
use mathlib.Core.Option.{Option, none, some}
use native.Mathlib.Omega.{arith}
use lib.Dec.{ltb}
use lib.ListN.{length}
use Rattle.base.specs.Answer.{wrong_setting, wrong_code, malformed, wrong_sign, too_large, no_sentence, no_room, first_of, Reply, refused, bytes, number_of, fitted, unless, replied, Answers}
use Rattle.base.specs.Measure.{measure_unless, measured}
use Rattle.base.specs.Reading.{Reading, Replies, earlier, sentence, otherwise, Reads}
use Rattle.base.specs.declared.Answer.{Answer}
use Rattle.base.specs.declared.Measure.{Measure}
use Rattle.settings.specs.Settings.{ukrainian_settings, french_settings, ukrainian_ranges, french_ranges}
use Rattle.settings.specs.Refused.{out_of_range}
use Rattle.settings.specs.Settings.{Settings}
use Rattle.figures.specs.Refusals.{ukrainian_digit_limit, french_digit_limit, cardinal_refusals, ordinal_refusals, digit_ordinal_refusals, amount_refusals}
use Rattle.uk_ordinal.specs.Ordinal.{school}
use Rattle.uk_ordinal_calls.specs.UkOrdinals.{reading_refusal}
use Rattle.uk_money.specs.Currencies.{Currency}
use Rattle.uk_money.specs.Codes.{currency_of, unknown}
use Rattle.tally_calls.specs.TallyCalls.{empty_bytes, opening}
use Rattle.yokepear.specs.Calls.{SpellingCall, spelling_of, reading_of, to_cardinal, to_ordinal, to_ordinal_num, to_year, to_currency, to_french_cardinal, to_french_ordinal, ReadingCall, from_cardinal, from_ordinal, from_year, from_currency, from_french_cardinal, from_french_ordinal, Called, by_spelling, by_reading, by_opening, OneOf}

-- what holds of 0 and the numbers of the conditions that a call names holds of its refusal; and if of 7 too, of the number that it answers with
module _ (P : ℕ → Type 0) (none_is : P 0) (setting-is : P wrong_setting) where
  abbrev Each : List (Bool × ℕ) → Type 0
  Each [] = Unit
  Each (c ∷ cs) = P c.1 × Each cs

  first_is : (cs : List (Bool × ℕ)) → Each cs → P (first_of cs)
  first_is [] p = none_is
  first_is (c ∷ cs) p = go c.0 (first_is cs p.1)
    where
      go : (b : Bool) → P (first_of cs) → P (cond b c.1 (first_of cs))
      go true q = p.0
      go false q = q

  pub settings_then : (rs : List (ℕ × ℕ)) (cs : List (Bool × ℕ)) → Each cs → P (first_of (out_of_range rs ∷ cs))
  settings_then rs cs p = first_is (out_of_range rs ∷ cs) (setting-is, p)

  -- the settings of a call that reads what is taught in school alone
  school_then : (S : Settings) → P (reading_refusal S)
  school_then S = settings_then (ukrainian_ranges S) ((not (school S), wrong_setting) ∷ []) (setting-is, tt)

  module _ (room-is : P no_room) where
    fitted_is : (xs b : List ℕ) → P (number_of (fitted xs b))
    fitted_is xs b = go (ltb (length xs) (length b))
      where
        go : (t : Bool) → P (number_of (cond t (refused no_room (length b)) (bytes b)))
        go true = room-is
        go false = none_is

    pub replied_is : (n : ℕ) (xs b : List ℕ) → P n → P (number_of (unless n (fitted xs b)))
    replied_is zero xs b p = fitted_is xs b
    replied_is (suc n) xs b p = p

    reading_by : (R : Reading) → P R.refusal → P no_sentence → {s xs : List ℕ} {reply : Reply} → Replies R s xs reply → P (number_of reply)
    reading_by R first six (earlier f) = first
    reading_by R first six {s} {xs} (sentence z t m) = fitted_is xs t
    reading_by R first six (otherwise z f) = six

  -- where calls may name a code too
  module _ (code_is : P wrong_code) where
    unknown_is : (c : Option Currency) → P (unknown c).1
    unknown_is none = code_is
    unknown_is (some c) = code_is

    pub refusal_is : P malformed → P wrong_sign → P too_large → (call : SpellingCall) → P (spelling_of call).refusal
    refusal_is text sign size (to_cardinal gender number case apostrophe style t) = settings_then (ukrainian_ranges (ukrainian_settings gender number case apostrophe style)) (cardinal_refusals ukrainian_digit_limit t) (text, (size, tt))
    refusal_is text sign size (to_ordinal gender number case apostrophe style t) = settings_then (ukrainian_ranges (ukrainian_settings gender number case apostrophe style)) (ordinal_refusals ukrainian_digit_limit t) (text, (sign, (size, tt)))
    refusal_is text sign size (to_ordinal_num gender number case apostrophe style t) = settings_then (ukrainian_ranges (ukrainian_settings gender number case apostrophe style)) (digit_ordinal_refusals t) (text, (sign, (size, tt)))
    refusal_is text sign size (to_year gender number case apostrophe style y) = settings_then (ukrainian_ranges (ukrainian_settings gender number case apostrophe style)) [] tt
    refusal_is text sign size (to_currency gender number case apostrophe style code t) = settings_then (ukrainian_ranges (ukrainian_settings gender number case apostrophe style)) (unknown (currency_of code) ∷ amount_refusals t) (unknown_is (currency_of code), (text, (sign, (size, tt))))
    refusal_is text sign size (to_french_cardinal feminine reformed region t) = settings_then (french_ranges (french_settings feminine reformed region)) (cardinal_refusals french_digit_limit t) (text, (size, tt))
    refusal_is text sign size (to_french_ordinal feminine reformed region t) = settings_then (french_ranges (french_settings feminine reformed region)) (ordinal_refusals french_digit_limit t) (text, (sign, (size, tt)))

    reading_first : (call : ReadingCall) → P (reading_of call).refusal
    reading_first (from_cardinal gender number case apostrophe style) = settings_then (ukrainian_ranges (ukrainian_settings gender number case apostrophe style)) [] tt
    reading_first (from_ordinal gender number case apostrophe style) = school_then (ukrainian_settings gender number case apostrophe style)
    reading_first (from_year gender number case apostrophe style) = school_then (ukrainian_settings gender number case apostrophe style)
    reading_first (from_currency gender number case apostrophe style code) = settings_then (ukrainian_ranges (ukrainian_settings gender number case apostrophe style)) (unknown (currency_of code) ∷ []) (unknown_is (currency_of code), tt)
    reading_first (from_french_cardinal feminine reformed region) = settings_then (french_ranges (french_settings feminine reformed region)) [] tt
    reading_first (from_french_ordinal feminine reformed region) = settings_then (french_ranges (french_settings feminine reformed region)) [] tt

    module _ (room-is : P no_room) where
      spelling_is : P malformed → P wrong_sign → P too_large → (call : SpellingCall) (xs : List ℕ) → P (number_of (replied (spelling_of call) xs))
      spelling_is text sign size call xs = replied_is room-is (spelling_of call).refusal xs (spelling_of call).phrase (refusal_is text sign size call)

      reading_is : P no_sentence → (call : ReadingCall) {s xs : List ℕ} {reply : Reply} → Replies (reading_of call) s xs reply → P (number_of reply)
      reading_is six call q = reading_by room-is (reading_of call) (reading_first call) six q

-- "Spelling never gives 6"
pub spelling_never_6 : (call : SpellingCall) (r : Answer) (xs ys : List ℕ) → Answers r xs ys (replied (spelling_of call) xs) → r.number ≡ no_sentence → ⊥
spelling_never_6 call r xs ys a = rw a.reported (spelling_is (λ (n : ℕ). n ≡ no_sentence → ⊥) (λ e. omega arith) (λ e. omega arith) (λ e. omega arith) (λ e. omega arith) (λ e. omega arith) (λ e. omega arith) (λ e. omega arith) call xs)

-- "Reading gives 1, 2, 6 or 7 only", where it refuses
pub reading_gives : (call : ReadingCall) (s : List ℕ) (r : Answer) (xs ys : List ℕ) → Reads (reading_of call) s r xs ys → OneOf (0 ∷ wrong_setting ∷ wrong_code ∷ no_sentence ∷ no_room ∷ []) r.number
reading_gives call s r xs ys p =
    rw p.is_answer.reported
    (reading_is (OneOf (0 ∷ wrong_setting ∷ wrong_code ∷ no_sentence ∷ no_room ∷ [])) (inl refl) (inr (inl refl)) (inr (inr (inl refl))) (inr (inr (inr (inr (inl refl))))) (inr (inr (inr (inl refl)))) call p.is_reply)

-- of ordinals and of years it "gives 1 (under style 0 too), 6 or 7 only" (02, W3)
abbrev OrdinalNumber : ℕ → Type 0
OrdinalNumber n = OneOf (0 ∷ wrong_setting ∷ no_sentence ∷ no_room ∷ []) n

module _ (gender number case apostrophe style : ℕ) {s xs ys : List ℕ} {r : Answer} where
  gives : (R : Reading) → R.refusal ≡ reading_refusal (ukrainian_settings gender number case apostrophe style) → Reads R s r xs ys → OrdinalNumber r.number
  gives R e p =
      let first = school_then OrdinalNumber (inl refl) (inr (inl refl)) (ukrainian_settings gender number case apostrophe style) in
      rw p.is_answer.reported (reading_by OrdinalNumber (inl refl) (inr (inl refl)) (inr (inr (inr (inl refl)))) R (rw e first) (inr (inr (inl refl))) p.is_reply)

  pub ordinal_reading_gives : Reads (reading_of (from_ordinal gender number case apostrophe style)) s r xs ys → OneOf (0 ∷ wrong_setting ∷ no_sentence ∷ no_room ∷ []) r.number
  ordinal_reading_gives = gives (reading_of (from_ordinal gender number case apostrophe style)) refl

  pub year_reading_gives : Reads (reading_of (from_year gender number case apostrophe style)) s r xs ys → OneOf (0 ∷ wrong_setting ∷ no_sentence ∷ no_room ∷ []) r.number
  year_reading_gives = gives (reading_of (from_year gender number case apostrophe style)) refl

-- a measuring call's refusal is the spelling call's: "Refusals 1 to 5 come in their old order; 7 never occurs here" (02, W1)
pub measured_refusal : (n : ℕ) (phrase : List ℕ) → (measure_unless n phrase).refusal ≡ n
measured_refusal zero phrase = refl
measured_refusal (suc n) phrase = refl

pub measuring_gives : (call : SpellingCall) (m : Measure) → m ≡ measured (spelling_of call) → OneOf (0 ∷ wrong_setting ∷ wrong_code ∷ malformed ∷ wrong_sign ∷ too_large ∷ []) m.refusal
measuring_gives call m e =
    rw (e, measured_refusal (spelling_of call).refusal (spelling_of call).phrase)
    (refusal_is (OneOf (0 ∷ wrong_setting ∷ wrong_code ∷ malformed ∷ wrong_sign ∷ too_large ∷ [])) (inl refl) (inr (inl refl)) (inr (inr (inl refl)))
    (inr (inr (inr (inl refl)))) (inr (inr (inr (inr (inl refl))))) (inr (inr (inr (inr (inr (inl refl)))))) call)

-- an opening call gives 2 and 7 only, where it refuses (02, W4)
opening_is : (P : ℕ → Type 0) → P 0 → P wrong_code → P no_room → (code xs : List ℕ) → P (number_of (replied (opening code) xs))
opening_is P none_is code_is room-is code xs = go (currency_of code)
  where
    room : (b : List ℕ) (t : Bool) → P (number_of (cond t (refused no_room (length b)) (bytes b)))
    room b true = room-is
    room b false = none_is

    go : (c : Option Currency) → P (number_of (unless (first_of (unknown c ∷ [])) (fitted xs (empty_bytes c))))
    go none = code_is
    go (some c) = room (empty_bytes (some c)) (ltb (length xs) (length (empty_bytes (some c))))

pub opening_gives : (code : List ℕ) (r : Answer) (xs ys : List ℕ) → Answers r xs ys (replied (opening code) xs) → OneOf (0 ∷ wrong_code ∷ no_room ∷ []) r.number
opening_gives code r xs ys a = rw a.reported (opening_is (OneOf (0 ∷ wrong_code ∷ no_room ∷ [])) (inl refl) (inr (inl refl)) (inr (inr (inl refl))) code xs)

-- the number of every call that answers with an `Answer` is one of 01's table, or 0
pub number_known : (r : Answer) (xs ys : List ℕ) → Called r xs ys → r.number ≤ no_room
number_known r xs ys (by_spelling call a) = rw a.reported (spelling_is (λ (n : ℕ). n ≤ no_room) (omega arith) (omega arith) (omega arith) (omega arith) (omega arith) (omega arith) (omega arith) call xs)
number_known r xs ys (by_reading call s p) = rw p.is_answer.reported (reading_is (λ (n : ℕ). n ≤ no_room) (omega arith) (omega arith) (omega arith) (omega arith) (omega arith) call p.is_reply)
number_known r xs ys (by_opening code a) = rw a.reported (opening_is (λ (n : ℕ). n ≤ no_room) (omega arith) (omega arith) (omega arith) code xs)
