-- The code's tables of places have document 01's words: one computed test for each, and the law for an entry.
-- Assumes nothing.
use Prim.Native.Nat.{ℕ, ◌+◌, ◌*◌, ◌-◌, ◌/◌, ◌<◌, ◌≤◌}
use mathlib.Core.Path.{◌≡◌, refl, sym, ◌∙◌}
use mathlib.Core.Bool.{Bool, true, false, cond, not, ◌&&◌, ◌||◌}
use mathlib.Core.List.{[], ◌∷◌, ◌++◌, append-nil, append_assoc}
use native.Mathlib.Omega.{arith}
use borrow.Author.Tests.{eq-eqb, ne_eqb, eqb-true, not-true}
use lib.Dec.{T, eqb}
use lib.ListN.{length, get_or, length-take, length-drop}
use Rattle.base.specs.Utf8.{utf8, form1}
use Rattle.base.specs.Join.{Word}
use Rattle.base.specs.Signs.{space, hyphen}
use Rattle.settings.specs.Settings.{Settings}
use Rattle.settings.specs.Chosen.{spelling_number, french_numbers_of}
use Rattle.settings.specs.declared.french.French.{French}
use Rattle.settings.proofs.Chosen.{spelling_bound, region_bound, spelling_index, spelling_index_lem}
use Rattle.words.specs.Part.{part}
use Rattle.fr.specs.Pool.{fr_pool}
use Rattle.fr.specs.FrTables.{units, tens, teens, megas}
use Rattle.fr.specs.Rules.{in_ch, is_mille, french_joiner, cent_word, counts_on, four_twenties, is_une, unit_word, ten_word, round_word, mega_name, scale_word}
use Rattle.fr.specs.Placed.{Known, Placed, Plural}
use Rattle.tables.proofs.Tests.{both_hold, all}
use Rattle.fr.proofs.Tests.{all_at, placed?, placed, plural?, plural}
use Rattle.fr.proofs.Deciders.{mille_not}
use Rattle.fr.proofs.Listed as places

-- a place that the pool has is below its end
pub known_fits : (p : ℕ) → Known p → p < 65536
unfolding part fr_pool
known_fits p k =
    let l : length (part fr_pool p) ≤ 716 - 2 * (p / 40) = rw (length-take, length-drop) (omega arith) in
    omega (arith, k.some, k.whole)

-- units, and `une`
unit? : ℕ → Bool
unit? u = placed? (get_or places.units u 0) (form1 units (u - 1))

units_right : T (all 1 9 unit?)
unfolding unit? part fr_pool form1 units
units_right = tt

module _ (S : Settings) (order u : ℕ) where
  pub plain_unit : 0 < u → u < 10 → is_une S order u ≡ false → Placed (get_or places.units u 0) (unit_word S order u)
  unfolding unit_word unit?
  plain_unit a b e = rw e (placed _ _ (all_at 1 9 unit? units_right u a (omega arith)))

  pub une_unit : is_une S order u ≡ true → Placed places.une (unit_word S order u)
  unfolding unit_word part fr_pool
  une_unit e = rw e (placed places.une (utf8 "une") tt)

-- teens
teen? : ℕ → Bool
teen? u = placed? (get_or places.teens u 0) (form1 teens u)

teens_right : T (all 0 10 teen?)
unfolding teen? part fr_pool form1 teens
teens_right = tt

pub teen_word : (u : ℕ) → u < 10 → Placed (get_or places.teens u 0) (form1 teens u)
unfolding teen?
teen_word u h = placed _ _ (all_at 0 10 teen? teens_right u (omega arith) h)

-- tens, which the region alone decides
abbrev region : ℕ → Settings
region g = record { gender = 0; number = 0; case = 0; reformed = 0; region = g; apostrophe = 0; style = 0 }

abbrev one_word : Settings → ℕ → Bool
one_word S t = not (counts_on S t || four_twenties S t)

ten? : ℕ → ℕ → Bool
ten? g t = not (one_word (region g) t) || placed? (get_or places.tens t 0) (ten_word (region g) t)

tens_right : T (all 0 3 (λ g. all 2 8 (ten? g)))
unfolding ten? part fr_pool ten_word form1 tens
tens_right = tt

pub ten_word_lem : (s : French) (t : ℕ) → 1 < t → t < 10 → counts_on (french_numbers_of s) t ≡ false → four_twenties (french_numbers_of s) t ≡ false
    → Placed (get_or places.tens t 0) (ten_word (french_numbers_of s) t)
unfolding ten? ten_word
ten_word_lem s t a b c d =
    let S = french_numbers_of s in
    let r = all_at 2 8 (ten? S.region) (all_at 0 3 (λ g. all 2 8 (ten? g)) tens_right S.region (omega arith) (region_bound s.region)) t a (omega arith) in
    placed (get_or places.tens t 0) (ten_word S t) (rw (c, d) at r)

module _ (S : Settings) (t : ℕ) where
  -- `quatre-vingt`, and `quatre-vingts`
  pub twenties_word : four_twenties S t ≡ true → Placed places.quatre_vingt (ten_word S t)
  unfolding ten_word form1 tens part fr_pool
  twenties_word e =
      let p = both_hold (eqb t 8) (not (in_ch S)) e in
      rw (eqb-true t 8 p.0, not-true (in_ch S) p.1) (placed places.quatre_vingt (utf8 "quatre-vingt") tt)

  module _ (k : ℕ) where
    pub round_mille : k ≡ 1 → ten_word S t ≡ round_word S k t
    unfolding round_word
    round_mille e = rw e (go (four_twenties S t))
      where
        go : (b : Bool) → ten_word S t ≡ cond (b && false) (utf8 "quatre-vingts") (ten_word S t)
        go true = refl
        go false = refl

    pub round_twenties : (k ≡ 1 → ⊥) → four_twenties S t ≡ true → Placed (places.quatre_vingt + 1) (round_word S k t)
    unfolding round_word part fr_pool
    round_twenties n e = rw (e, mille_not k n) (placed (places.quatre_vingt + 1) (utf8 "quatre-vingts") tt)

    pub round_other : four_twenties S t ≡ false → ten_word S t ≡ round_word S k t
    unfolding round_word
    round_other e = rw e refl

-- hundreds above 1, by the joiner
hundred? : ℕ → ℕ → Bool
hundred? r h = plural? (get_or (get_or places.hundreds r []) h 0) (form1 units (h - 1) ++ (cond (eqb r 1) hyphen space ∷ utf8 "cent"))

hundreds_right : T (all 0 2 (λ r. all 2 8 (hundred? r)))
unfolding hundred? part fr_pool form1 units
hundreds_right = tt

pub hundred_word : (s : French) (h : ℕ) → 1 < h → h < 10
    → Plural (get_or (get_or places.hundreds (spelling_index s.spelling) []) h 0) (form1 units (h - 1) ++ (french_joiner (french_numbers_of s) ∷ utf8 "cent"))
unfolding hundred?
hundred_word s h a b =
    let r = spelling_number s.spelling in
    rw (spelling_index_lem s.spelling) (plural _ _ (all_at 2 8 (hundred? r) (all_at 0 2 (λ r. all 2 8 (hundred? r)) hundreds_right r (omega arith) (spelling_bound s.spelling)) h a (omega arith)))

-- with `s`, or without it
module _ (w : Word) (j k b : ℕ) where
  pub cents : true ≡ (eqb b 0 && not (is_mille k)) → (w ++ (j ∷ utf8 "cent")) ++ utf8 "s" ≡ w ++ (j ∷ cent_word k b)
  unfolding cent_word
  cents e = append_assoc w (j ∷ utf8 "cent") (utf8 "s") ∙ rw (← e) refl

  pub no_cents : false ≡ (eqb b 0 && not (is_mille k)) → w ++ (j ∷ utf8 "cent") ≡ w ++ (j ∷ cent_word k b)
  unfolding cent_word
  no_cents e = rw (← e) refl

-- scale words above `mille`
scale? : ℕ → Bool
scale? k = plural? (get_or places.megas k 0) (mega_name k)

scales_right : T (all 2 32 scale?)
unfolding scale? part fr_pool mega_name form1 megas
scales_right = tt

module _ (k g : ℕ) where
  pub mille_word : k ≡ 1 → Placed (get_or places.megas k 0) (scale_word k g)
  unfolding scale_word mega_name form1 megas part fr_pool
  mille_word e = rw e (placed (get_or places.megas 1 0) (utf8 "mille") tt)

  module _ (n : k ≡ 1 → ⊥) where
    pub scale_word_lem : 0 < k → k < 34 → Plural (get_or places.megas k 0) (mega_name k)
    unfolding scale?
    scale_word_lem x y = plural _ _ (all_at 2 32 scale? scales_right k (omega (arith, n)) (omega arith))

    pub scale_one : g ≡ 1 → mega_name k ≡ scale_word k g
    unfolding scale_word
    scale_one e = rw (mille_not k n, eq-eqb g 1 e) (sym (append-nil (mega_name k)))

    pub scale_more : (g ≡ 1 → ⊥) → mega_name k ++ utf8 "s" ≡ scale_word k g
    unfolding scale_word
    scale_more e = rw (mille_not k n, ne_eqb g 1 e) refl

-- the words that stand in no table
pub zéro : Placed places.zero (utf8 "zéro")
unfolding part fr_pool
zéro = placed places.zero (utf8 "zéro") tt

pub moins : Placed places.moins (utf8 "moins")
unfolding part fr_pool
moins = placed places.moins (utf8 "moins") tt

pub cent : Placed places.cent (utf8 "cent")
unfolding part fr_pool
cent = placed places.cent (utf8 "cent") tt

pub et : Placed places.et (utf8 "et")
unfolding part fr_pool
et = placed places.et (utf8 "et") tt

pub premier : Placed places.premier (utf8 "premier")
unfolding part fr_pool
premier = placed places.premier (utf8 "premier") tt

pub ième : Placed places.ieme (utf8 "ième")
unfolding part fr_pool
ième = placed places.ieme (utf8 "ième") tt
