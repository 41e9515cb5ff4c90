-- What the words of a group seem to say: they give the group's value and order, and hand on what is behind it.
-- Assumes nothing.
use Prim.Native.Nat.{ℕ, zero, suc, ◌+◌, ◌-◌, ◌*◌, ◌/◌, ◌%◌, ◌<◌}
use mathlib.Core.Path.{◌≡◌, refl, sym, ap, ◌∙◌}
use mathlib.Core.Bool.{Bool, true, false, cond, not, ◌&&◌}
use mathlib.Core.List.{List, [], ◌∷◌, ◌++◌, append-nil, append_assoc}
use native.Mathlib.Omega.{arith}
use borrow.Author.Tests.{ltb-true, lt-ltb, le-ltb, ne_eqb, eqb-true}
use lib.Dec.{eqb, ltb}
use Rattle.tables.proofs.Tests.{both_hold}
use Rattle.base.specs.Utf8.{utf8, form1}
use Rattle.settings.specs.Settings.{french_ranges, Within}
use Rattle.settings.specs.Settings.{Settings}
use Rattle.fr.specs.FrTables.{units}
use Rattle.fr.specs.Rules.{is_mille, cent_word, hundred_words, tens_words, number_words, scale_words, french_group}
use Rattle.fr_read.specs.Reading.{meanings, grow, times, at_least_one, guess, seems}
use Rattle.fr_read.proofs.Splits.{sense, sense_append, Sounds, sounds_append}
use Rattle.fr_read.proofs.Known.{Known, unit_known, scale_known, cent_known, cents_known, grows, smalls, low_adds}

-- words below a hundred add up
seems_small : (h c : ℕ) (ms R : List ℕ) → smalls ms ≡ true → seems h c (ms ++ R) ≡ seems h (grows c ms) R
unfolding seems
seems_small h c [] R e = refl
seems_small h c (m ∷ ms) R e =
    let p = both_hold (ltb m 100) (smalls ms) e in
    let l = ltb-true m 100 p.0 in
    rw (le-ltb 100 m (omega arith), ne_eqb m 100 (λ q. omega arith)) (seems_small h (grow c m) ms R p.1)

-- `cent`, alone and after a digit
seems_cent : (h c : ℕ) (R : List ℕ) → seems h c (100 ∷ R) ≡ seems (times c) 0 R
unfolding seems
seems_cent h c R = refl

pub seems_scale : (h c m : ℕ) (R : List ℕ) → 100 < m → seems h c (m ∷ R) ≡ guess (at_least_one (100 * h + c)) (m - 1000) R
unfolding seems
seems_scale h c m R l = rw (lt-ltb 100 m l) refl

-- the hundreds
cent_word_lem : (k b : ℕ) → Known (cent_word k b) 100
unfolding cent_word
cent_word_lem k b = go (eqb b 0 && not (is_mille k))
  where
    go : (t : Bool) → Known (cond t (utf8 "cents") (utf8 "cent")) 100
    go true = cents_known
    go false = cent_known

hundred_sounds : (k h b : ℕ) → h < 10 → Sounds (hundred_words k h b)
unfolding hundred_words
hundred_sounds k zero b l = tt
hundred_sounds k (suc zero) b l = (cent_known.sound, tt)
hundred_sounds k (suc (suc h)) b l =
    let e : suc (suc h) - 1 ≡ suc h = omega arith in
    ((rw e at (unit_known (suc (suc h)) (omega arith) l)).sound, ((cent_word_lem k b).sound, tt))

hundred_seems : (k h b : ℕ) (R : List ℕ) → h < 10 → seems 0 0 (sense (hundred_words k h b) ++ R) ≡ seems h 0 R
unfolding hundred_words
hundred_seems k zero b R l = refl
hundred_seems k (suc zero) b R l = rw cent_known.means (seems_cent 0 0 R)
hundred_seems k (suc (suc h)) b R l =
    let e : suc (suc h) - 1 ≡ suc h = omega arith in
    let w : meanings (form1 units (suc h)) ≡ suc (suc h) ∷ [] = rw e at (unit_known (suc (suc h)) (omega arith) l).means in
    let g : grow 0 (suc (suc h)) ≡ suc (suc h) = omega arith in
    let t : times (suc (suc h)) ≡ suc (suc h) = rw (ne_eqb (suc (suc h)) 0 (λ q. omega arith)) (omega arith) in
    rw (w, (cent_word_lem k b).means)
    (seems_small 0 0 (suc (suc h) ∷ []) (100 ∷ R) (rw (lt-ltb (suc (suc h)) 100 (omega arith)) refl)
    ∙ rw g (seems_cent 0 (suc (suc h)) R ∙ rw t refl))

-- the scale word
scale_sense : (k g : ℕ) → 0 < k → k < 34 → Sounds (scale_words k g) × (sense (scale_words k g) ≡ (1000 + k) ∷ [])
unfolding scale_words
scale_sense zero g a b = absurd (omega arith)
scale_sense (suc k) g a b =
    let w = scale_known (suc k) a b g in
    ((w.sound, tt), rw w.means refl)

module _ (S : Settings) (v : Within (french_ranges S)) where
  -- a number: its hundreds, and what is below them
  number_sounds : (k g : ℕ) → Sounds (number_words S k g)
  number_sounds k g =
      sounds_append (hundred_words k (g / 100 % 10) (g % 100)) (tens_words S k (g / 10 % 10) (g % 10))
      (hundred_sounds k (g / 100 % 10) (g % 100) (omega arith)) (low_adds S v k (g / 10 % 10) (g % 10) (omega arith) (omega arith)).sounds

  number_seems : (k g : ℕ) (R : List ℕ) → seems 0 0 (sense (number_words S k g) ++ R) ≡ seems (g / 100 % 10) (10 * (g / 10 % 10) + g % 10) R
  number_seems k g R =
      let h = hundred_words k (g / 100 % 10) (g % 100) in
      let l = tens_words S k (g / 10 % 10) (g % 10) in
      let a = low_adds S v k (g / 10 % 10) (g % 10) (omega arith) (omega arith) in
      ap (λ (m : List ℕ). seems 0 0 m) (ap (λ (m : List ℕ). m ++ R) (sense_append h l) ∙ append_assoc (sense h) (sense l) R)
      ∙ hundred_seems k (g / 100 % 10) (g % 100) (sense l ++ R) (omega arith)
      ∙ seems_small (g / 100 % 10) 0 (sense l) R a.small ∙ ap (λ (c : ℕ). seems (g / 100 % 10) c R) a.sum

  -- a group
  pub group_sounds : (k g : ℕ) → k < 34 → Sounds (french_group S k g)
  unfolding french_group scale_words
  group_sounds zero g l = rw (append-nil (number_words S 0 g)) (number_sounds 0 g)
  group_sounds (suc k) g l = go (is_mille (suc k) && eqb g 1)
    where
      go : (t : Bool) → Sounds (cond t [] (number_words S (suc k) g) ++ scale_words (suc k) g)
      go true = (scale_sense (suc k) g (omega arith) l).0
      go false = sounds_append (number_words S (suc k) g) (scale_words (suc k) g) (number_sounds (suc k) g) (scale_sense (suc k) g (omega arith) l).0

  digits : (g : ℕ) → g < 1000 → 100 * (g / 100 % 10) + (10 * (g / 10 % 10) + g % 10) ≡ g
  digits g l = omega arith

  pub lowest_seems : (g : ℕ) → g < 1000 → seems 0 0 (sense (french_group S 0 g)) ≡ guess g 0 []
  unfolding french_group scale_words seems
  lowest_seems g l =
      rw (append-nil (number_words S 0 g))
      (ap (λ (m : List ℕ). seems 0 0 m) (sym (append-nil (sense (number_words S 0 g)))) ∙ number_seems 0 g [] ∙ ap (λ (x : ℕ). guess x 0 []) (digits g l))

  pub group_seems : (k g : ℕ) (R : List ℕ) → 0 < k → k < 34 → 0 < g → g < 1000 → seems 0 0 (sense (french_group S k g) ++ R) ≡ guess g k R
  unfolding french_group
  group_seems k g R a b p l = go (is_mille k && eqb g 1) refl
    where
      s : sense (scale_words k g) ≡ (1000 + k) ∷ []
      s = (scale_sense k g a b).1

      o : 1000 + k - 1000 ≡ k
      o = omega arith

      go : (t : Bool) → (is_mille k && eqb g 1) ≡ t → seems 0 0 (sense (cond t [] (number_words S k g) ++ scale_words k g) ++ R) ≡ guess g k R
      go true e =
          let q = both_hold (is_mille k) (eqb g 1) e in
          rw (s, eqb-true g 1 q.1) (seems_scale 0 0 (1000 + k) R (omega arith) ∙ rw o refl)
      go false e =
          let u : at_least_one (100 * (g / 100 % 10) + (10 * (g / 10 % 10) + g % 10)) ≡ g = rw (digits g l, ne_eqb g 0 (λ z. omega arith)) refl in
          ap (λ (m : List ℕ). seems 0 0 (m ++ R)) (sense_append (number_words S k g) (scale_words k g))
          ∙ ap (λ (m : List ℕ). seems 0 0 m) (append_assoc (sense (number_words S k g)) (sense (scale_words k g)) R)
          ∙ number_seems k g (sense (scale_words k g) ++ R)
          ∙ rw s (seems_scale (g / 100 % 10) (10 * (g / 10 % 10) + g % 10) (1000 + k) R (omega arith) ∙ rw (u, o) refl)
