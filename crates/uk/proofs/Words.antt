-- No Ukrainian number word is empty: one computed test for each table, and so for the words of groups.
-- Assumes nothing.
use Prim.Native.Nat.{ℕ, zero, suc, ◌+◌, ◌-◌, ◌/◌, ◌%◌, ◌^◌, ◌<◌}
use mathlib.Core.Path.{◌≡◌, refl}
use mathlib.Core.Bool.{Bool}
use native.Mathlib.Omega.{arith}
use borrow.Author.Tests.{ltb-true, ltb-false}
use lib.Dec.{eqb, ltb}
use lib.ListN.{length, length-append}
use Rattle.base.specs.Join.{Word}
use Rattle.base.specs.Utf8.{form1, form2, form3}
use Rattle.base.proofs.Words.{tested, Solid, Trails, followed, either, Solids, solids_append, at1, at2, at3}
use Rattle.settings.specs.Settings.{ukrainian_ranges, Within, Settings}
use Rattle.cardinals.specs.Cardinal.{cardinal_phrase}
use Rattle.cardinals.proofs.Words.{GroupsSome, SolidWords, cardinal_solid}
use Rattle.uk.specs.UkTables.{zeros, gendered, units, teens_bases, teens_flexions, tens, hundreds, thousand_flexions, mega_bases, mega_flexions}
use Rattle.uk.specs.Apostrophes.{by_apostrophe1, by_apostrophe2}
use Rattle.uk.specs.Rules.{DigitWords, opt, low_words, num_words}
use Rattle.uk.specs.Ukrainian.{at_order, unit_form, teen_form, ukrainian_digits, agreed, scale_ending, scale_noun, noun_words, ukrainian_group, ukrainian}
use Rattle.uk.proofs.Laws.{ordered, agrees}

-- the texts of the tables
zero_solid : (i : ℕ) → i < 6 → Solid (form1 zeros i)
unfolding form1 zeros
zero_solid = at1 6 zeros refl

gendered_solid : (i j k : ℕ) → i < 2 → j < 3 → k < 6 → Solid (form3 gendered i j k)
unfolding form3 gendered
gendered_solid = at3 2 3 6 gendered refl

unit_solid : (a i j : ℕ) → a < 3 → i < 7 → j < 6 → Solid (form3 (by_apostrophe2 units) a i j)
unfolding form3 by_apostrophe2 units
unit_solid = at3 3 7 6 (by_apostrophe2 units) refl

pub teen_solid : (a i : ℕ) → a < 3 → i < 10 → Solid (form2 (by_apostrophe1 teens_bases) a i)
unfolding form2 by_apostrophe1 teens_bases
teen_solid = at2 3 10 (by_apostrophe1 teens_bases) refl

teen_ending : (i : ℕ) → i < 6 → Trails (form1 teens_flexions i)
unfolding form1 teens_flexions
teen_ending = at1 6 teens_flexions refl

ten_solid : (a i j : ℕ) → a < 3 → i < 8 → j < 6 → Solid (form3 (by_apostrophe2 tens) a i j)
unfolding form3 by_apostrophe2 tens
ten_solid = at3 3 8 6 (by_apostrophe2 tens) refl

hundred_solid : (a i j : ℕ) → a < 3 → i < 9 → j < 6 → Solid (form3 (by_apostrophe2 hundreds) a i j)
unfolding form3 by_apostrophe2 hundreds
hundred_solid = at3 3 9 6 (by_apostrophe2 hundreds) refl

thousand_ending : (i j : ℕ) → i < 2 → j < 6 → Trails (form2 thousand_flexions i j)
unfolding form2 thousand_flexions
thousand_ending = at2 2 6 thousand_flexions refl

pub mega_solid : (i : ℕ) → i < 21 → Solid (form1 mega_bases i)
unfolding form1 mega_bases
mega_solid = at1 21 mega_bases refl

mega_ending : (i j : ℕ) → i < 2 → j < 6 → Trails (form2 mega_flexions i j)
unfolding form2 mega_flexions
mega_ending = at2 2 6 mega_flexions refl

-- every word of digits is solid
pub record SolidDigits (W : DigitWords) : Type 0 where
  pub hundred : (h : ℕ) → 0 < h → h < 10 → Solid (W.hundred h)
  pub ten : (t : ℕ) → 1 < t → t < 10 → Solid (W.ten t)
  pub teen : (v : ℕ) → 9 < v → v < 20 → Solid (W.teen v)
  pub unit : (u : ℕ) → 0 < u → u < 10 → Solid (W.unit u)

pub digits_solid : (S : Settings) → Within (ukrainian_ranges S) → SolidDigits (ukrainian_digits S)
unfolding ukrainian_digits unit_form teen_form
digits_solid S w =
    let c = w.1.1.0 in
    let p = w.1.1.1.0 in
    record {
      hundred = λ h a b. hundred_solid S.apostrophe (h - 1) S.case p (omega arith) c;
      ten = λ t a b. ten_solid S.apostrophe (t - 2) S.case p (omega arith) c;
      teen = λ v a b. followed (teen_solid S.apostrophe (v - 10) p (omega arith)) (teen_ending S.case c);
      unit = λ u a b. either Solid (ltb u 3)
          (λ e. gendered_solid (u - 1) S.gender S.case (omega (arith, ltb-true u 3 e)) w.0 c)
          (λ e. unit_solid S.apostrophe (u - 3) S.case p (omega (arith, ltb-false u 3 e)) c);
    }

-- so are those of a group's digits; and a group above 0 has one
pub opt_solid : (w : ℕ → Word) (d : ℕ) → (0 < d → Solid (w d)) → Solids (opt w d)
opt_solid w zero f = tt
opt_solid w (suc d) f = (f (omega arith), tt)

module _ {W : DigitWords} (D : SolidDigits W) where
  low_solid : (t u : ℕ) → t < 10 → u < 10 → Solids (low_words W t u)
  low_solid zero u a b = opt_solid W.unit u (λ h. D.unit u h b)
  low_solid (suc zero) u a b = (D.teen (10 + u) (omega arith) (omega arith), tt)
  low_solid (suc (suc t)) u a b = (D.ten (suc (suc t)) (omega arith) a, opt_solid W.unit u (λ h. D.unit u h b))

  pub num_solid : (g : ℕ) → Solids (num_words W (g / 100 % 10) (g / 10 % 10) (g % 10))
  num_solid g =
      solids_append (opt W.hundred (g / 100 % 10)) (low_words W (g / 10 % 10) (g % 10))
      (opt_solid W.hundred (g / 100 % 10) (λ h. D.hundred (g / 100 % 10) h (omega arith))) (low_solid (g / 10 % 10) (g % 10) (omega arith) (omega arith))

num_some : (W : DigitWords) (g : ℕ) → 0 < g → g < 1000 → 0 < length (num_words W (g / 100 % 10) (g / 10 % 10) (g % 10))
num_some W g a b = go (g / 100 % 10) (g / 10 % 10) (g % 10) refl refl refl
  where
    go : (h t u : ℕ) → g / 100 % 10 ≡ h → g / 10 % 10 ≡ t → g % 10 ≡ u → 0 < length (num_words W h t u)
    go zero zero zero p q r = absurd (omega (arith, p, q, r))
    go zero zero (suc u) p q r = omega arith
    go zero (suc zero) u p q r = omega arith
    go zero (suc (suc t)) u p q r = omega arith
    go (suc h) t u p q r = omega arith

-- scale nouns
ending_runs : (S : Settings) (k : ℕ) → Within (ukrainian_ranges S) → Trails (scale_ending S k)
unfolding scale_ending
ending_runs S k w =
    either Trails (eqb k 1) (λ e. thousand_ending S.number S.case w.1.0 w.1.1.0) (λ e. mega_ending S.number S.case w.1.0 w.1.1.0)

noun_solid : (S : Settings) (k t u : ℕ) → Within (ukrainian_ranges S) → k < 22 → Solids (noun_words S k t u)
unfolding scale_noun
noun_solid S zero t u w h = tt
noun_solid S (suc k) t u w h = (followed (mega_solid (suc k - 1) (omega arith)) (ending_runs (agreed t u S) (suc k) (agrees t u S w)), tt)

groups_some : (S : Settings) → GroupsSome (ukrainian S)
unfolding ukrainian ukrainian_group
groups_some S k g a b =
    rw (length-append (num_words (ukrainian_digits (at_order k S)) (g / 100 % 10) (g / 10 % 10) (g % 10)) (noun_words S k (g / 10 % 10) (g % 10)))
    (omega (arith, num_some (ukrainian_digits (at_order k S)) g a b))

-- what Ukrainian has for its cardinals
pub ukrainian_solid : (S : Settings) → Within (ukrainian_ranges S) → SolidWords (ukrainian S)
unfolding ukrainian ukrainian_group
ukrainian_solid S w = record {
  zeroth = zero_solid S.case w.1.1.0;
  minus = tested refl;
  some = groups_some S;
  groups = λ k g h a b. solids_append (num_words (ukrainian_digits (at_order k S)) (g / 100 % 10) (g / 10 % 10) (g % 10)) (noun_words S k (g / 10 % 10) (g % 10))
      (num_solid (digits_solid (at_order k S) (ordered k S w)) g) (noun_solid S k (g / 10 % 10) (g % 10) w h);
}

pub ukrainian_cardinal : (S : Settings) → Within (ukrainian_ranges S) → (minus : Bool) (n : ℕ) → n < 1000 ^ 22 → Solid (cardinal_phrase (ukrainian S) minus n)
unfolding ukrainian
ukrainian_cardinal S w minus n h = cardinal_solid (ukrainian_solid S w) minus n h
