-- Every French word means what the reader takes it for, with and without an ordinal's ending: computed tests over all words of all settings.
-- Assumes nothing.
use Prim.Native.Nat.{ℕ, zero, suc, ◌+◌, ◌-◌, ◌*◌, ◌<◌}
use mathlib.Core.Path.{◌≡◌, refl}
use mathlib.Core.Bool.{Bool, true, false, ◌&&◌}
use mathlib.Core.List.{List, [], ◌∷◌}
use native.Mathlib.Omega.{arith}
use borrow.Author.Tests.{eqb-true}
use lib.Dec.{T, eqb, ltb}
use Rattle.base.specs.Utf8.{utf8, form1}
use Rattle.base.specs.Join.{Word}
use Rattle.tokens.specs.Tokens.{split, full_key, key}
use Rattle.meanings.specs.Lookup.{lookup}
use Rattle.fr_meanings.specs.Meanings.{shifts, table, meaning_of}
use Rattle.settings.specs.Settings.{french_settings, french_ranges, Within}
use Rattle.settings.specs.Settings.{Settings}
use Rattle.fr.specs.FrTables.{units, tens, teens, megas}
use Rattle.fr.specs.Rules.{ten_word, round_word, link, unit_word, pair_word, tens_words, mega_name, scale_word, without_e, nth}
use Rattle.base.specs.Same.{same_text}
use Rattle.tables.proofs.Tests.{all}
use Rattle.fr.proofs.Tests.{yes_of, and_left, and_right, all_at, same_eq}
use Rattle.fr_read.specs.Reading.{meanings, grow}
use Rattle.fr_read.proofs.Splits.{closed, sense, Sound, Sounds}

-- a sound word
sound? : Word → Bool
unfolding meanings split full_key key meaning_of shifts table lookup nth without_e
sound? w = closed w && (closed (nth w) && same_text (meanings (nth w)) (meanings w))

sound : (w : Word) → T (sound? w) → Sound w
unfolding sound?
sound w t =
    let r = and_right (closed w) (closed (nth w) && same_text (meanings (nth w)) (meanings w)) t in
    record {
      alone = yes_of (closed w) (and_left (closed w) (closed (nth w) && same_text (meanings (nth w)) (meanings w)) t);
      ended = yes_of (closed (nth w)) (and_left (closed (nth w)) (same_text (meanings (nth w)) (meanings w)) r);
      same = same_eq (meanings (nth w)) (meanings w) (and_right (closed (nth w)) (same_text (meanings (nth w)) (meanings w)) r);
    }

-- a sound word with this meaning alone
pub record Known (w : Word) (m : ℕ) : Type 0 where
  pub sound : Sound w
  pub means : meanings w ≡ m ∷ []

known? : ℕ → Word → Bool
unfolding meanings split full_key key meaning_of shifts table lookup
known? m w = sound? w && same_text (meanings w) (m ∷ [])

known : (m : ℕ) (w : Word) → T (known? m w) → Known w m
unfolding known?
known m w t = record {
  sound = sound w (and_left (sound? w) (same_text (meanings w) (m ∷ [])) t);
  means = same_eq (meanings w) (m ∷ []) (and_right (sound? w) (same_text (meanings w) (m ∷ [])) t);
}

units_known : T (all 1 9 (λ u. known? u (form1 units (u - 1))))
unfolding known? sound? form1 units
units_known = tt

pub unit_known : (u : ℕ) → 0 < u → u < 10 → Known (form1 units (u - 1)) u
unit_known u a b = known u (form1 units (u - 1)) (all_at 1 9 (λ u. known? u (form1 units (u - 1))) units_known u a (omega arith))

-- of a group's number the scale word asks only whether it is 1
scales_known : T (all 1 33 (λ k. all 1 2 (λ g. known? (1000 + k) (scale_word k g))))
unfolding known? sound? scale_word mega_name form1 megas
scales_known = tt

module _ (k : ℕ) (h : 0 < k) (l : k < 34) where
  scale_tests : (g : ℕ) → 0 < g → g < 3 → Known (scale_word k g) (1000 + k)
  scale_tests g a b =
      known (1000 + k) (scale_word k g)
      (all_at 1 2 (λ g. known? (1000 + k) (scale_word k g)) (all_at 1 33 (λ k. all 1 2 (λ g. known? (1000 + k) (scale_word k g))) scales_known k h (omega arith)) g a (omega arith))

  pub scale_known : (g : ℕ) → Known (scale_word k g) (1000 + k)
  unfolding scale_word
  scale_known g = go (eqb g 1) refl
    where
      go : (t : Bool) → eqb g 1 ≡ t → Known (scale_word k g) (1000 + k)
      go true e = rw (eqb-true g 1 e) (scale_tests 1 (omega arith) (omega arith))
      go false e = rw e (scale_tests 2 (omega arith) (omega arith))

pub cent_known : Known (utf8 "cent") 100
unfolding known? sound?
cent_known = known 100 (utf8 "cent") tt

pub cents_known : Known (utf8 "cents") 100
unfolding known? sound?
cents_known = known 100 (utf8 "cents") tt

pub zero_known : Known (utf8 "zéro") 0
unfolding known? sound?
zero_known = known 0 (utf8 "zéro") tt

pub moins_means : (closed (utf8 "moins") ≡ true) × (meanings (utf8 "moins") ≡ 2001 ∷ [])
unfolding meanings split full_key key meaning_of shifts table lookup
moins_means = (refl, refl)

pub premier_means : meanings (utf8 "premier") ≡ 1 ∷ []
unfolding meanings split full_key key meaning_of shifts table lookup
premier_means = refl

-- words of a number below a hundred: none is above it, and they add up to v
abbrev pub grows : ℕ → List ℕ → ℕ
grows c [] = c
grows c (m ∷ ms) = grows (grow c m) ms

abbrev pub smalls : List ℕ → Bool
smalls [] = true
smalls (m ∷ ms) = ltb m 100 && smalls ms

pub record Adds (ws : List Word) (v : ℕ) : Type 0 where
  pub sounds : Sounds ws
  pub sum : grows 0 (sense ws) ≡ v
  pub small : smalls (sense ws) ≡ true

abbrev sounds? : List Word → Bool
sounds? [] = true
sounds? (w ∷ ws) = sound? w && sounds? ws

sounds : (ws : List Word) → T (sounds? ws) → Sounds ws
sounds [] t = tt
sounds (w ∷ ws) t = (sound w (and_left (sound? w) (sounds? ws) t), sounds ws (and_right (sound? w) (sounds? ws) t))

adds? : List Word → ℕ → Bool
unfolding meanings split full_key key meaning_of shifts table lookup
adds? ws v = sounds? ws && (eqb (grows 0 (sense ws)) v && smalls (sense ws))

adds : (ws : List Word) (v : ℕ) → T (adds? ws v) → Adds ws v
unfolding adds?
adds ws v t =
    let e = eqb (grows 0 (sense ws)) v in
    let r = and_right (sounds? ws) (e && smalls (sense ws)) t in
    record {
      sounds = sounds ws (and_left (sounds? ws) (e && smalls (sense ws)) t);
      sum = eqb-true (grows 0 (sense ws)) v (yes_of e (and_left e (smalls (sense ws)) r));
      small = yes_of (smalls (sense ws)) (and_right e (smalls (sense ws)) r);
    }

low? : Settings → ℕ → Bool
unfolding tens_words round_word ten_word pair_word link unit_word form1 units tens teens
low? S k = all 0 10 (λ t. all 0 10 (λ u. adds? (tens_words S k t u) (10 * t + u)))

lows_add : T (all 0 2 (λ f. all 0 2 (λ r. all 0 3 (λ g. all 0 3 (λ k. low? (french_settings f r g) k)))))
unfolding low? adds? sound?
lows_add = tt

module _ (S : Settings) (v : Within (french_ranges S)) where
  -- the settings that French has
  abbrev own : Settings
  own = french_settings S.gender S.reformed S.region

  low_tests : (k : ℕ) → k < 3 → T (low? own k)
  low_tests k h =
      all_at 0 3 (λ k. low? own k)
      (all_at 0 3 (λ g. all 0 3 (λ k. low? (french_settings S.gender S.reformed g) k))
      (all_at 0 2 (λ r. all 0 3 (λ g. all 0 3 (λ k. low? (french_settings S.gender r g) k)))
      (all_at 0 2 (λ f. all 0 2 (λ r. all 0 3 (λ g. all 0 3 (λ k. low? (french_settings f r g) k)))) lows_add S.gender (omega arith) v.0) S.reformed
      (omega arith) v.1.0) S.region (omega arith) v.1.1.0) k (omega arith) h

  low_at : (k t u : ℕ) → k < 3 → t < 10 → u < 10 → Adds (tens_words own k t u) (10 * t + u)
  unfolding low?
  low_at k t u h a b =
      adds (tens_words own k t u) (10 * t + u)
      (all_at 0 10 (λ u. adds? (tens_words own k t u) (10 * t + u))
      (all_at 0 10 (λ t. all 0 10 (λ u. adds? (tens_words own k t u) (10 * t + u))) (low_tests k h) t (omega arith) a) u (omega arith) b)

  -- the words ask for no other settings, and above order 1 they are those of order 2
  own_words : (k t u : ℕ) → Adds (tens_words own k t u) (10 * t + u) → Adds (tens_words S k t u) (10 * t + u)
  unfolding tens_words round_word ten_word pair_word link unit_word
  own_words k zero zero r = r
  own_words k zero (suc u) r = r
  own_words k (suc zero) u r = r
  own_words k (suc (suc t)) zero r = r
  own_words k (suc (suc t)) (suc u) r = r

  higher_words : (k t u : ℕ) → Adds (tens_words own 2 t u) (10 * t + u) → Adds (tens_words own (suc (suc k)) t u) (10 * t + u)
  unfolding tens_words round_word pair_word unit_word
  higher_words k zero zero r = r
  higher_words k zero (suc u) r = r
  higher_words k (suc zero) u r = r
  higher_words k (suc (suc t)) zero r = r
  higher_words k (suc (suc t)) (suc u) r = r

  pub low_adds : (k t u : ℕ) → t < 10 → u < 10 → Adds (tens_words S k t u) (10 * t + u)
  low_adds zero t u a b = own_words 0 t u (low_at 0 t u (omega arith) a b)
  low_adds (suc zero) t u a b = own_words 1 t u (low_at 1 t u (omega arith) a b)
  low_adds (suc (suc k)) t u a b = own_words (suc (suc k)) t u (higher_words k t u (low_at 2 t u (omega arith) a b))
