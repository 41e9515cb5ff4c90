-- The stems of order 0, each with its value: one computed test over all stems, under every sign and before every ending.
-- Assumes nothing.
use Prim.Native.Nat.{ℕ, ◌+◌, ◌-◌, ◌*◌, ◌%◌, ◌<◌, ◌≤◌}
use mathlib.Core.Path.{◌≡◌, refl}
use mathlib.Core.Bool.{Bool, true, false, not, ◌&&◌, ◌||◌}
use mathlib.Core.List.{[], ◌∷◌, ◌++◌}
use native.Mathlib.Omega.{arith}
use borrow.Author.Tests.{eqb-true, not-true}
use lib.Dec.{eqb}
use lib.ListN.{length, length-append}
use lib.Seq.{take-append_seam}
use Rattle.base.specs.Join.{Word}
use Rattle.base.specs.Signs.{space}
use Rattle.base.specs.Utf8.{utf8, form1, form2, form3}
use Rattle.tables.proofs.Tests.{clash, both_hold, all, all_at}
use Rattle.tokens.specs.Tokens.{first_word, full_key, key}
use Rattle.meanings.specs.Lookup.{lookup}
use Rattle.uk_ordinal_meanings.specs.Meanings.{shifts, table, meaning_of}
use Rattle.settings.specs.Settings.{ukrainian_settings, ukrainian_ranges, Within}
use Rattle.settings.specs.Settings.{Settings}
use Rattle.uk.specs.UkTables.{gendered, units, teens_bases}
use Rattle.uk.specs.Apostrophes.{by_apostrophe1, by_apostrophe2}
use Rattle.uk.specs.Ukrainian.{unit_form}
use Rattle.uk_ordinal.specs.OrdinalTables.{ordinal_zero_base, ordinal_unit_bases, ordinal_tens_bases, hundred_base, adjective_hard_flexions_singular, adjective_hard_flexions_plural, adjective_soft_flexions_singular, adjective_soft_flexions_plural}
use Rattle.uk_ordinal.specs.Ordinal.{flexion, in_genitive}
use Rattle.uk_ordinal_read.specs.LastWord.{spaced, without, stem_means, compound, stem_order, stem_value}

-- a last word w, of which the stem x is left: its order and its value, and no space in it
pub record Stemmed (w x : Word) (order value : ℕ) : Type 0 where
  pub order_is : stem_order x ≡ order
  pub value_is : stem_value x ≡ value
  pub unspaced : spaced w ≡ false

-- the test of a stem of order 0
stem? : Word → ℕ → Bool
unfolding meaning_of shifts table lookup full_key key first_word
stem? x v = not (compound x) && eqb (stem_means x % 1000) v

stemmed : (w x : Word) (v : ℕ) → stem? x v ≡ true → spaced w ≡ false → Stemmed w x 0 v
unfolding stem? stem_order stem_value
stemmed w x v t s =
    let p = both_hold (not (compound x)) (eqb (stem_means x % 1000) v) t in
    let c : compound x ≡ false = not-true (compound x) p.0 in
    record { order_is = rw c refl; value_is = rw c (eqb-true (stem_means x % 1000) v p.1); unspaced = s }

-- what has no space, followed by what has none
neither : (a b : Bool) → (a || b) ≡ false → (a ≡ false) × (b ≡ false)
neither true b e = clash e
neither false b e = (refl, e)

pub spaced_append : (x y : Word) → spaced x ≡ false → spaced y ≡ false → spaced (x ++ y) ≡ false
spaced_append [] y e f = f
spaced_append (b ∷ x) y e f = let p = neither (eqb b space) (spaced x) e in rw (p.0, spaced_append x y p.1 f) refl

-- a word without its last bytes
pub without_end : (x e : Word) → without (length e) (x ++ e) ≡ x
without_end x e =
    let l : length (x ++ e) - length e ≡ length x = omega (arith, length-append x e) in
    rw l (take-append_seam x e)

-- the endings by gender, grammatical number and case have no space
ending : ℕ → ℕ → ℕ → Bool → Word
ending g n c is_soft = flexion (ukrainian_settings g n c 0 0) is_soft

forms : (ℕ → ℕ → ℕ → Bool) → Bool
forms f = all 0 3 (λ g. all 0 2 (λ n. all 0 6 (λ c. f g n c)))

form_at : (f : ℕ → ℕ → ℕ → Bool) → forms f ≡ true → (g n c : ℕ) → g < 3 → n < 2 → c < 6 → f g n c ≡ true
unfolding forms
form_at f t g n c i j k =
    all_at 0 6 (f g n) (all_at 0 2 (λ n. all 0 6 (f g n)) (all_at 0 3 (λ g. all 0 2 (λ n. all 0 6 (f g n))) t g (omega arith) i) n (omega arith) j) c (omega arith) k

ending? : Bool → ℕ → ℕ → ℕ → Bool
ending? is_soft g n c = not (spaced (ending g n c is_soft))

endings_pass : (forms (ending? true) ≡ true) × (forms (ending? false) ≡ true)
unfolding forms ending? ending flexion form1 form2 adjective_hard_flexions_singular adjective_hard_flexions_plural adjective_soft_flexions_singular adjective_soft_flexions_plural
endings_pass = (refl, refl)

-- the base of 3 with the soft ending, of which so many bytes are cut as the hard one has
third : ℕ → Word
third a = form2 (by_apostrophe1 ordinal_unit_bases) a 2

third? : ℕ → ℕ → ℕ → ℕ → Bool
third? a g n c = stem? (without (length (ending g n c false)) (third a ++ ending g n c true)) 3

-- a stem by the sign
plain? : Word → ℕ → Bool
plain? x v = stem? x v && not (spaced x)

count : ℕ → ℕ → Word
count a h = unit_form (in_genitive (ukrainian_settings 0 0 0 a 0)) h

-- the stems by the sign, with their values
unit? : ℕ → ℕ → Bool
unit? a u = plain? (form2 (by_apostrophe1 ordinal_unit_bases) a (u - 1)) u

ten? : ℕ → ℕ → Bool
ten? a t = plain? (form2 (by_apostrophe1 ordinal_tens_bases) a (t - 1)) (10 * t)

teen? : ℕ → ℕ → Bool
teen? a u = plain? (form2 (by_apostrophe1 teens_bases) a u) (10 + u)

round? : ℕ → ℕ → Bool
round? a h = plain? (count a h ++ utf8 hundred_base) (100 * h)

-- the n numbers from lo on, under each sign
signs : ℕ → ℕ → (ℕ → ℕ → Bool) → Bool
signs lo n f = all 0 3 (λ a. all lo n (f a))

sign_at_lem : (lo n : ℕ) (f : ℕ → ℕ → Bool) → signs lo n f ≡ true → (a i : ℕ) → a < 3 → lo ≤ i → i < lo + n → f a i ≡ true
unfolding signs
sign_at_lem lo n f t a i h l r = all_at lo n (f a) (all_at 0 3 (λ a. all lo n (f a)) t a (omega arith) h) i l r

passes : (signs 1 9 unit? ≡ true) × (signs 2 8 ten? ≡ true) × (signs 0 10 teen? ≡ true) × (signs 2 8 round? ≡ true) × (all 0 3 (λ a. forms (third? a)) ≡ true)
    × (plain? (utf8 hundred_base) 100 ≡ true) × (plain? (utf8 ordinal_zero_base) 0 ≡ true)
unfolding signs unit? ten? teen? round? plain? stem? count third third? forms ending flexion unit_form form1 form2 form3 by_apostrophe1 by_apostrophe2 gendered units teens_bases ordinal_zero_base ordinal_unit_bases ordinal_tens_bases hundred_base adjective_hard_flexions_singular adjective_hard_flexions_plural adjective_soft_flexions_singular adjective_soft_flexions_plural
passes = (refl, refl, refl, refl, refl, refl, refl)

module _ (S : Settings) (w : Within (ukrainian_ranges S)) where
  -- a last word without as many bytes as the hard ending has
  abbrev pub Ends : Word → ℕ → ℕ → Type 0
  Ends x order value = Stemmed x (without (length (flexion S false)) x) order value

  abbrev pub hard : Word
  hard = flexion S false

  pub ending_unspaced : (is_soft : Bool) → spaced (flexion S is_soft) ≡ false
  unfolding ending? ending flexion
  ending_unspaced true = not-true _ (form_at (ending? true) endings_pass.0 S.gender S.number S.case w.0 w.1.0 w.1.1.0)
  ending_unspaced false = not-true _ (form_at (ending? false) endings_pass.1 S.gender S.number S.case w.0 w.1.0 w.1.1.0)

  -- a stem with the hard ending
  ends : (x : Word) (v : ℕ) → plain? x v ≡ true → Ends (x ++ hard) 0 v
  unfolding plain?
  ends x v t =
      let p = both_hold (stem? x v) (not (spaced x)) t in
      rw (without_end x hard) (stemmed (x ++ hard) x v p.0 (spaced_append x hard (not-true (spaced x) p.1) (ending_unspaced false)))

  pub ends_zero : Ends (utf8 ordinal_zero_base ++ hard) 0 0
  ends_zero = ends (utf8 ordinal_zero_base) 0 passes.6

  pub ends_unit : (u : ℕ) → 0 < u → u < 10 → Ends (form2 (by_apostrophe1 ordinal_unit_bases) S.apostrophe (u - 1) ++ hard) 0 u
  unfolding unit?
  ends_unit u a b = ends (form2 (by_apostrophe1 ordinal_unit_bases) S.apostrophe (u - 1)) u (sign_at_lem 1 9 unit? passes.0 S.apostrophe u w.1.1.1.0 a (omega arith))

  pub ends_ten : (t : ℕ) → 1 < t → t < 10 → Ends (form2 (by_apostrophe1 ordinal_tens_bases) S.apostrophe (t - 1) ++ hard) 0 (10 * t)
  unfolding ten?
  ends_ten t a b = ends (form2 (by_apostrophe1 ordinal_tens_bases) S.apostrophe (t - 1)) (10 * t) (sign_at_lem 2 8 ten? passes.1 S.apostrophe t w.1.1.1.0 a (omega arith))

  pub ends_teen : (u : ℕ) → u < 10 → Ends (form2 (by_apostrophe1 teens_bases) S.apostrophe u ++ hard) 0 (10 + u)
  unfolding teen?
  ends_teen u b = ends (form2 (by_apostrophe1 teens_bases) S.apostrophe u) (10 + u) (sign_at_lem 0 10 teen? passes.2 S.apostrophe u w.1.1.1.0 (omega arith) b)

  pub ends_hundred : Ends (utf8 hundred_base ++ hard) 0 100
  ends_hundred = ends (utf8 hundred_base) 100 passes.5

  pub ends_round : (h : ℕ) → 1 < h → h < 10 → Ends ((unit_form (in_genitive S) h ++ utf8 hundred_base) ++ hard) 0 (100 * h)
  unfolding round? count unit_form
  ends_round h a b = ends (unit_form (in_genitive S) h ++ utf8 hundred_base) (100 * h) (sign_at_lem 2 8 round? passes.3 S.apostrophe h w.1.1.1.0 a (omega arith))

  -- the base of 3 with the soft ending
  pub ends_third : Ends (form2 (by_apostrophe1 ordinal_unit_bases) S.apostrophe 2 ++ flexion S true) 0 3
  unfolding third third? ending flexion unit? plain?
  ends_third =
      let a = S.apostrophe in
      let x = form2 (by_apostrophe1 ordinal_unit_bases) a 2 in
      let t = form_at (third? a) (all_at 0 3 (λ a. forms (third? a)) passes.4 a (omega arith) w.1.1.1.0) S.gender S.number S.case w.0 w.1.0 w.1.1.0 in
      let p = both_hold (stem? x 3) (not (spaced x)) (sign_at_lem 1 9 unit? passes.0 a 3 w.1.1.1.0 (omega arith) (omega arith)) in
      stemmed (x ++ flexion S true) (without (length (flexion S false)) (x ++ flexion S true)) 3 t (spaced_append x (flexion S true) (not-true (spaced x) p.1) (ending_unspaced true))
