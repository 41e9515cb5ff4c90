-- Every Ukrainian number word means one thing, whatever the case, the gender and the apostrophe: one computed test over all words of all settings.
-- Assumes nothing.
use Prim.Native.Nat.{ℕ, ◌+◌, ◌-◌, ◌*◌, ◌<◌}
use mathlib.Core.Path.{◌≡◌, refl}
use mathlib.Core.Bool.{Bool, true, ◌&&◌}
use mathlib.Core.List.{◌++◌}
use native.Mathlib.Omega.{arith}
use borrow.Author.Tests.{eqb-true}
use lib.Dec.{eqb}
use Rattle.base.specs.Join.{Word}
use Rattle.base.specs.Utf8.{utf8, form1, form2, form3}
use Rattle.tables.proofs.Tests.{and_left, and_right, all, all_at}
use Rattle.tokens.specs.Tokens.{full_key, key}
use Rattle.tokens.proofs.Words.{is_word}
use Rattle.meanings.specs.Lookup.{lookup}
use Rattle.uk_meanings.specs.Meanings.{shifts, table, meaning_of}
use Rattle.settings.specs.Settings.{ukrainian_settings, ukrainian_ranges, Within}
use Rattle.settings.specs.Settings.{Settings}
use Rattle.uk.specs.UkTables.{zeros, gendered, units, teens_bases, teens_flexions, tens, hundreds, thousand_flexions, mega_bases, mega_flexions}
use Rattle.uk.specs.Apostrophes.{by_apostrophe1, by_apostrophe2}
use Rattle.uk.specs.Rules.{DigitWords}
use Rattle.uk.specs.Ukrainian.{at_order, unit_form, teen_form, ukrainian_digits, agreed, scale_ending, scale_noun, ukrainian}
use Rattle.uk.proofs.Laws.{ordered, agrees}
use Rattle.uk_read.specs.Reading.{mean}

-- a word of one meaning, without a gap in it
pub record Known (w : Word) (v : ℕ) : Type 0 where
  pub means : mean w ≡ v
  pub sound : is_word w ≡ true

known? : Word → ℕ → Bool
unfolding meaning_of shifts table lookup full_key key
known? w v = eqb (mean w) v && is_word w

knows : (w : Word) (v : ℕ) → known? w v ≡ true → Known w v
unfolding known?
knows w v t = record { means = eqb-true (mean w) v (and_left (eqb (mean w) v) (is_word w) t); sound = and_right (eqb (mean w) v) (is_word w) t }

-- a scale noun by order, grammatical number and case
scale : ℕ → ℕ → ℕ → Word
scale k n c = form1 mega_bases (k - 1) ++ scale_ending (ukrainian_settings 0 n c 0 0) k

-- the words of digits by apostrophe and case
abbrev hundreds? : ℕ → ℕ → Bool
hundreds? a c = all 1 9 (λ h. known? (form3 (by_apostrophe2 hundreds) a (h - 1) c) (100 * h))

abbrev tens? : ℕ → ℕ → Bool
tens? a c = all 2 8 (λ t. known? (form3 (by_apostrophe2 tens) a (t - 2) c) (10 * t))

abbrev teens? : ℕ → ℕ → Bool
teens? a c = all 10 10 (λ v. known? (teen_form (ukrainian_settings 0 0 c a 0) v) v)

abbrev units? : ℕ → ℕ → Bool
units? a c = all 0 3 (λ g. all 1 9 (λ u. known? (unit_form (ukrainian_settings g 0 c a 0) u) u))

abbrev scales? : ℕ → Bool
scales? c = all 0 2 (λ n. all 1 21 (λ k. known? (scale k n c) (1000 + k)))

abbrev zeros? : ℕ → Bool
zeros? c = known? (form1 zeros c) 1000

abbrev cases : (ℕ → Bool) → Bool
cases f = all 0 6 f

abbrev signs : (ℕ → ℕ → Bool) → Bool
signs f = all 0 3 (λ a. cases (f a))

passes : (signs hundreds? ≡ true) × (signs tens? ≡ true) × (signs teens? ≡ true) × (signs units? ≡ true) × (cases scales? ≡ true) × (cases zeros? ≡ true)
    × (known? (utf8 "мінус") 2001 ≡ true)
unfolding known? scale unit_form teen_form scale_ending form1 form2 form3 by_apostrophe1 by_apostrophe2 zeros gendered units teens_bases teens_flexions tens hundreds thousand_flexions mega_bases mega_flexions
passes = (refl, refl, refl, refl, refl, refl, refl)

-- what every word of digits means
pub record Counting (W : DigitWords) : Type 0 where
  pub hundred : (h : ℕ) → 0 < h → h < 10 → Known (W.hundred h) (100 * h)
  pub ten : (t : ℕ) → 1 < t → t < 10 → Known (W.ten t) (10 * t)
  pub teen : (v : ℕ) → 9 < v → v < 20 → Known (W.teen v) v
  pub unit : (u : ℕ) → 0 < u → u < 10 → Known (W.unit u) u

-- what every word under settings means
pub record Lawful (S : Settings) : Type 0 where
  pub digits : (k : ℕ) → Counting (ukrainian_digits (at_order k S))
  pub noun : (k t u : ℕ) → 0 < k → k < 22 → Known (scale_noun S k t u) (1000 + k)
  pub zeroth : Known (ukrainian S).zero_word 1000
  pub minus : Known (ukrainian S).minus_word 2001

at : (f : ℕ → Bool) → cases f ≡ true → (c : ℕ) → c < 6 → f c ≡ true
at f t c h = all_at 0 6 f t c (omega arith) h

sign_at_lem : (f : ℕ → ℕ → Bool) → signs f ≡ true → (a c : ℕ) → a < 3 → c < 6 → f a c ≡ true
sign_at_lem f t a c p h = at (f a) (all_at 0 3 (λ a. cases (f a)) t a (omega arith) p) c h

counting : (S : Settings) → Within (ukrainian_ranges S) → Counting (ukrainian_digits S)
unfolding ukrainian_digits unit_form teen_form
counting S w =
    let p = S.apostrophe in
    let q = w.1.1.1.0 in
    let c = S.case in
    let h = w.1.1.0 in
    let hundred : ℕ → Word = λ d. form3 (by_apostrophe2 hundreds) p (d - 1) c in
    let ten : ℕ → Word = λ t. form3 (by_apostrophe2 tens) p (t - 2) c in
    record {
      hundred = λ d a b. knows (hundred d) (100 * d) (all_at 1 9 (λ d. known? (hundred d) (100 * d)) (sign_at_lem hundreds? passes.0 p c q h) d a (omega arith));
      ten = λ t a b. knows (ten t) (10 * t) (all_at 2 8 (λ t. known? (ten t) (10 * t)) (sign_at_lem tens? passes.1 p c q h) t a (omega arith));
      teen = λ v a b. knows (teen_form S v) v (all_at 10 10 (λ v. known? (teen_form S v) v) (sign_at_lem teens? passes.2 p c q h) v a (omega arith));
      unit = λ u a b. knows (unit_form S u) u
          (all_at 1 9 (λ u. known? (unit_form S u) u)
          (all_at 0 3 (λ g. all 1 9 (λ u. known? (unit_form (ukrainian_settings g 0 c p 0) u) u)) (sign_at_lem units? passes.3 p c q h) S.gender (omega arith) w.0) u a (omega arith));
    }

-- a scale noun by the settings in which it agrees
noun_known : (S : Settings) → Within (ukrainian_ranges S) → (k : ℕ) → 0 < k → k < 22 → Known (form1 mega_bases (k - 1) ++ scale_ending S k) (1000 + k)
unfolding scale scale_ending
noun_known S w k a b =
    let n = S.number in
    let c = S.case in
    knows (scale k n c) (1000 + k)
    (all_at 1 21 (λ k. known? (scale k n c) (1000 + k))
    (all_at 0 2 (λ n. all 1 21 (λ k. known? (scale k n c) (1000 + k))) (at scales? passes.4 c w.1.1.0) n (omega arith) w.1.0) k a (omega arith))

pub lawful : (S : Settings) → Within (ukrainian_ranges S) → Lawful S
unfolding ukrainian scale_noun
lawful S w = record {
  digits = λ k. counting (at_order k S) (ordered k S w);
  noun = λ k t u a b. noun_known (agreed t u S) (agrees t u S w) k a b;
  zeroth = knows (form1 zeros S.case) 1000 (at zeros? passes.5 S.case w.1.1.0);
  minus = knows (utf8 "мінус") 2001 passes.6;
}
