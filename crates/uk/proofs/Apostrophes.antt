-- Ukrainian number words under an apostrophe are those with U+02BC, its sign in place of each: tables, groups and cardinals.
-- Assumes nothing.
use Prim.Native.Char.{Char, code}
use Prim.Native.Nat.{ℕ, zero, suc, ◌+◌, ◌-◌, ◌/◌, ◌%◌, ◌<◌}
use Prim.Native.String.{String, [], ◌∷◌}
use mathlib.Core.Path.{◌≡◌, refl}
use mathlib.Core.Bool.{Bool, true, false, cond}
use mathlib.Core.List.{List, [] as []ᴸ, ◌∷◌ as ◌∷ᴸ◌, map}
use native.Mathlib.Omega.{arith}
use borrow.Author.Tests.{eqb-false}
use lib.Dec.{eqb, ltb}
use lib.ListN.{get_or, get_or-map}
use Rattle.base.specs.Join.{Word}
use Rattle.base.specs.Utf8.{encode, utf8, form2, form3}
use Rattle.base.proofs.Replaced.{Turns, Stays, WordsTurn, none, word, chosen, plain1?, plain2?, plain3?, nothing, followed, apostrophe, encoded, plain, at1, at2, at3, one, words_append, joined_turns}
use Rattle.settings.specs.Settings.{masculine, feminine, in_gender, Settings}
use Rattle.cardinals.specs.Cardinal.{cardinal_phrase}
use Rattle.cardinals.proofs.Replaced.{LexiconTurns, words_turn}
use Rattle.uk.specs.UkTables.{zeros, gendered, units, teens_bases, teens_flexions, tens, hundreds, thousand_flexions, mega_bases, mega_flexions}
use Rattle.uk.specs.Apostrophes.{apostrophes, with_apostrophe, by_apostrophe1, by_apostrophe2, sign_at, sign_bytes}
use Rattle.uk.specs.Rules.{DigitWords, opt, low_words, num_words}
use Rattle.uk.specs.Ukrainian.{at_order, unit_form, teen_form, ukrainian_digits, agreed, scale_ending, scale_noun, noun_words, ukrainian_group, ukrainian}

-- the settings S under another apostrophe
abbrev pub in_apostrophe : ℕ → Settings → Settings
in_apostrophe a S = record { gender = S.gender; number = S.number; case = S.case; reformed = S.reformed; region = S.region; apostrophe = a; style = S.style }

-- what is said under the settings S has under the apostrophe a its sign for each U+02BC: a word, and words
abbrev pub TurnsAt : ℕ → Settings → (Settings → Word) → Type 0
TurnsAt a S f = Turns (sign_bytes a) (f (in_apostrophe 0 S)) (f (in_apostrophe a S))

abbrev pub WordsTurnAt : ℕ → Settings → (Settings → List Word) → Type 0
WordsTurnAt a S f = WordsTurn (sign_bytes a) (f (in_apostrophe 0 S)) (f (in_apostrophe a S))

-- a text of a table that has the sign
pub text_turns : (sign : Char) (s : String) → Turns (encode (code sign)) (utf8 (with_apostrophe "ʼ" s)) (utf8 (with_apostrophe sign s))
text_turns sign [] = nothing
text_turns sign (c ∷ s) = followed (go (eqb (code c) (code "ʼ")) refl) (text_turns sign s)
  where
    go : (t : Bool) → eqb (code c) (code "ʼ") ≡ t → Turns (encode (code sign)) (encode (code (cond t "ʼ" c))) (encode (code (cond t sign c)))
    go true e = apostrophe
    go false e = encoded (code c) (eqb-false (code c) (code "ʼ") e)

-- it is the table's own, with the sign of the apostrophe
by_sign : {A : Type 0} (f : Char → A) (d : A) (a : ℕ) → a < 3 → get_or (map f apostrophes) a d ≡ f (sign_at a)
by_sign f d zero h = refl
by_sign f d (suc zero) h = refl
by_sign f d (suc (suc zero)) h = refl
by_sign f d (suc (suc (suc a))) h = absurd (omega arith)

pub by1 : (t : List String) (a i : ℕ) → a < 3 → form2 (by_apostrophe1 t) a i ≡ utf8 (with_apostrophe (sign_at a) (get_or t i ""))
unfolding form2 by_apostrophe1
by1 t a i h = rw (by_sign (λ sign. map (with_apostrophe sign) t) []ᴸ a h, get_or-map (with_apostrophe (sign_at a)) t i "")

pub by2 : (t : List (List String)) (a i j : ℕ) → a < 3 → form3 (by_apostrophe2 t) a i j ≡ form2 (by_apostrophe1 (get_or t i []ᴸ)) a j
unfolding form2 form3 by_apostrophe1 by_apostrophe2
by2 t a i j h =
    rw (by_sign (λ sign. map (map (with_apostrophe sign)) t) []ᴸ a h, get_or-map (map (with_apostrophe (sign_at a))) t i []ᴸ, by_sign (λ sign. map (with_apostrophe sign) (get_or t i []ᴸ)) []ᴸ a h)

-- the tables that have no sign
zeros_plain : plain1? zeros ≡ true
unfolding zeros
zeros_plain = refl

gendered_plain : plain3? gendered ≡ true
unfolding gendered
gendered_plain = refl

teens_plain : plain1? teens_flexions ≡ true
unfolding teens_flexions
teens_plain = refl

thousand_plain : plain2? thousand_flexions ≡ true
unfolding thousand_flexions
thousand_plain = refl

pub mega_plain : plain1? mega_bases ≡ true
unfolding mega_bases
mega_plain = refl

mega_endings_plain : plain2? mega_flexions ≡ true
unfolding mega_flexions
mega_endings_plain = refl

-- words of digits
pub record DigitsTurn (sign : List ℕ) (W W' : DigitWords) : Type 0 where
  pub hundred : (h : ℕ) → Turns sign (W.hundred h) (W'.hundred h)
  pub ten : (t : ℕ) → Turns sign (W.ten t) (W'.ten t)
  pub teen : (v : ℕ) → Turns sign (W.teen v) (W'.teen v)
  pub unit : (u : ℕ) → Turns sign (W.unit u) (W'.unit u)

module _ {sign : List ℕ} where
  pub opt_turns : (w w' : ℕ → Word) → ((d : ℕ) → Turns sign (w d) (w' d)) → (d : ℕ) → WordsTurn sign (opt w d) (opt w' d)
  opt_turns w w' f zero = none
  opt_turns w w' f (suc d) = one (f (suc d))

  module _ {W W' : DigitWords} (D : DigitsTurn sign W W') where
    low_turns : (t u : ℕ) → WordsTurn sign (low_words W t u) (low_words W' t u)
    low_turns zero u = opt_turns W.unit W'.unit D.unit u
    low_turns (suc zero) u = one (D.teen (10 + u))
    low_turns (suc (suc t)) u = word (D.ten (suc (suc t))) (opt_turns W.unit W'.unit D.unit u)

    pub num_turns : (h t u : ℕ) → WordsTurn sign (num_words W h t u) (num_words W' h t u)
    num_turns h t u = words_append (opt_turns W.hundred W'.hundred D.hundred h) (low_turns t u)

module _ (a : ℕ) (h : a < 3) where
  pub turns1 : (t : List String) (i : ℕ) → Turns (sign_bytes a) (form2 (by_apostrophe1 t) 0 i) (form2 (by_apostrophe1 t) a i)
  turns1 t i = rw (by1 t 0 i (omega arith), by1 t a i h) (text_turns (sign_at a) (get_or t i ""))

  turns2 : (t : List (List String)) (i j : ℕ) → Turns (sign_bytes a) (form3 (by_apostrophe2 t) 0 i j) (form3 (by_apostrophe2 t) a i j)
  turns2 t i j = rw (by2 t 0 i j (omega arith), by2 t a i j h) (turns1 (get_or t i []ᴸ) j)

  pub unit_turns : (S : Settings) (u : ℕ) → TurnsAt a S (λ S. unit_form S u)
  unfolding unit_form
  unit_turns S u = chosen (Turns (sign_bytes a)) (ltb u 3) (at3 gendered gendered_plain (u - 1) S.gender S.case) (turns2 units (u - 3) S.case)

  pub digits_turn : (S : Settings) → DigitsTurn (sign_bytes a) (ukrainian_digits (in_apostrophe 0 S)) (ukrainian_digits (in_apostrophe a S))
  unfolding ukrainian_digits teen_form
  digits_turn S = record {
    hundred = λ d. turns2 hundreds (d - 1) S.case;
    ten = λ d. turns2 tens (d - 2) S.case;
    teen = λ v. followed (turns1 teens_bases (v - 10)) (at1 teens_flexions teens_plain S.case);
    unit = λ u. unit_turns S u;
  }

  order_digits : (S : Settings) (k : ℕ) → DigitsTurn (sign_bytes a) (ukrainian_digits (at_order k (in_apostrophe 0 S))) (ukrainian_digits (at_order k (in_apostrophe a S)))
  order_digits S zero = digits_turn S
  order_digits S (suc zero) = digits_turn (in_gender feminine S)
  order_digits S (suc (suc k)) = digits_turn (in_gender masculine S)

  -- scale nouns have no sign
  noun_turns : (S : Settings) (k t u : ℕ) → WordsTurnAt a S (λ S. noun_words S k t u)
  unfolding scale_noun scale_ending
  noun_turns S zero t u = none
  noun_turns S (suc k) t u =
      one (followed (at1 mega_bases mega_plain (suc k - 1))
      (chosen (Turns (sign_bytes a)) (eqb (suc k) 1) (at2 thousand_flexions thousand_plain (agreed t u S).number (agreed t u S).case) (at2 mega_flexions mega_endings_plain (agreed t u S).number (agreed t u S).case)))

  -- what Ukrainian has for its cardinals
  pub ukrainian_turns : (S : Settings) → LexiconTurns (sign_bytes a) (ukrainian (in_apostrophe 0 S)) (ukrainian (in_apostrophe a S))
  unfolding ukrainian ukrainian_group
  ukrainian_turns S = record {
    orders = refl;
    zeroth = at1 zeros zeros_plain S.case;
    minus = plain (utf8 "мінус") refl;
    groups = λ k g. words_append (num_turns (order_digits S k) (g / 100 % 10) (g / 10 % 10) (g % 10)) (noun_turns S k (g / 10 % 10) (g % 10));
  }

  pub cardinal_turns : (S : Settings) (minus : Bool) (n : ℕ) → TurnsAt a S (λ S. cardinal_phrase (ukrainian S) minus n)
  unfolding cardinal_phrase ukrainian
  cardinal_turns S minus n = joined_turns (words_turn (ukrainian_turns S) minus n)
