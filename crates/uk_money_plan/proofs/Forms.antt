-- The words of names and counts as the code's places and tests have them.
-- Assumes nothing.
use Prim.Native.Nat.{ℕ, zero, suc, ◌+◌, ◌*◌, ◌/◌, ◌%◌, ◌<◌}
use mathlib.Core.Path.{◌≡◌, refl, sym}
use mathlib.Core.Bool.{false}
use mathlib.Core.List.{List, [], ◌∷◌, ◌++◌, append-nil}
use native.Mathlib.Omega.{arith}
use borrow.Author.Tests.{ne_eqb}
use lib.Dec.{eqb}
use lib.ListN.{get_or, replicate}
use Rattle.base.specs.Join.{joined}
use Rattle.base.specs.Utf8.{form2}
use Rattle.settings.specs.Settings.{Settings}
use Rattle.figures.specs.Groups.{total, Groups}
use Rattle.groups.specs.Highest.{ZeroFrom}
use Rattle.words.specs.Part.{part}
use Rattle.uk.specs.Pool.{uk_pool}
use Rattle.uk.specs.Ukrainian.{agreed}
use Rattle.uk_money.specs.Nouns.{endings, Name, agreed_name}
use Rattle.uk_money.specs.Currencies.{Currency}
use Rattle.uk_money.specs.Money.{count_words, amount_words, amount_phrase}
use Rattle.uk_money.specs.Rows.{class_at, adjective_in, FormAt, Row}

-- a word whose stem is empty, and one whose ending is
empty : (p : ℕ) → p ≡ 0 → part uk_pool p ≡ []
unfolding part
empty p z = rw z refl

pub only_ending : (s e : ℕ) → s ≡ 0 → part uk_pool e ≡ part uk_pool s ++ part uk_pool e
only_ending s e z = rw (empty s z) refl

pub only_stem : (s e : ℕ) → e ≡ 0 → part uk_pool s ≡ part uk_pool s ++ part uk_pool e
only_stem s e z = rw (empty e z, append-nil) refl

-- a name as it agrees with n, from the adjective and the noun of its row, in the form that stands at p
pub name_is : (S : Settings) (name : Name) (row : List ℕ) → Row name row → (n p e : ℕ) → FormAt (agreed (n / 10 % 10) (n % 10) S) p
    → part uk_pool e ≡ form2 (endings (class_at (get_or row 2 0))) (p / 6) (p % 6)
    → adjective_in (agreed (n / 10 % 10) (n % 10) S) (get_or row 0 0) ++ ((part uk_pool (get_or row 1 0) ++ part uk_pool e) ∷ []) ≡ agreed_name S name n
unfolding agreed_name
name_is S name row r n p e s f = rw (f, s.number_is, s.case_is, r.forms (agreed (n / 10 % 10) (n % 10) S)) refl

-- it agrees with a number as with its lowest group
pub agrees_low : (S : Settings) (name : Name) (gs : List ℕ) → agreed_name S name (get_or gs 0 0) ≡ agreed_name S name (total gs)
unfolding agreed_name
agrees_low S name [] = refl
agrees_low S name (g ∷ gs) =
    let t : (g + 1000 * total gs) / 10 % 10 ≡ g / 10 % 10 = omega arith in
    let u : (g + 1000 * total gs) % 10 ≡ g % 10 = omega arith in
    rw (t, u) refl

-- hundredths as the lowest of the code's groups
zeros_are : (n i : ℕ) → ◌≡◌ {A = ℕ} (get_or (replicate n 0) i 0) 0
zeros_are zero i = refl
zeros_are (suc n) zero = refl
zeros_are (suc n) (suc i) = zeros_are n i

zero_groups : (n : ℕ) → Groups (replicate n 0)
zero_groups zero = tt
zero_groups (suc n) = (omega arith, zero_groups n)

pub one_order : (h : ℕ) → ZeroFrom (h ∷ replicate 21 0) 1
one_order h zero l = absurd (omega arith)
one_order h (suc i) l = zeros_are 21 i

pub one_group : (h : ℕ) → h < 100 → Groups (h ∷ replicate 21 0)
one_group h l = (omega arith, zero_groups 21)

one_total : (h : ℕ) → total (h ∷ replicate 21 0) ≡ h
one_total h = omega arith

pub one_some : (h : ℕ) → 0 < h → false ≡ eqb (total (h ∷ replicate 21 0)) 0
one_some h l = rw (one_total h) (sym (ne_eqb h 0 (λ e. omega arith)))

-- the cases of an amount
pub whole_is_lem : (S : Settings) (c : Currency) (n h : ℕ) → h ≡ 0 → joined (count_words S c.main n) ≡ amount_phrase S c n h
unfolding amount_words amount_phrase
whole_is_lem S c n h e = rw e refl

pub part_is : (S : Settings) (c : Currency) (n h : ℕ) → n ≡ 0 → (h ≡ 0 → ⊥) → joined (count_words S c.fraction h) ≡ amount_phrase S c n h
unfolding amount_words amount_phrase
part_is S c n zero z o = absurd (o refl)
part_is S c n (suc h) z o = rw z refl

pub both_are : (S : Settings) (c : Currency) (n h : ℕ) → (n ≡ 0 → ⊥) → (h ≡ 0 → ⊥)
    → joined (count_words S c.main n ++ count_words S c.fraction h) ≡ amount_phrase S c n h
unfolding amount_words amount_phrase
both_are S c n zero z o = absurd (o refl)
both_are S c zero (suc h) z o = absurd (z refl)
both_are S c (suc n) (suc h) z o = refl
