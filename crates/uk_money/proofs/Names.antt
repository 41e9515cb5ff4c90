-- The code's tables hold the names of the currencies and the endings: tests that antt computes over the whole tables.
-- Assumes nothing.
use Prim.Native.Nat.{ℕ, ◌/◌, ◌%◌, ◌<◌}
use mathlib.Core.Path.{◌≡◌, refl, sym, ap, ◌∙◌}
use mathlib.Core.Bool.{Bool, true, ◌&&◌}
use mathlib.Core.List.{List, [], map}
use native.Mathlib.Omega.{arith}
use borrow.Author.Tests.{ltb-true}
use lib.Dec.{ltb}
use lib.ListN.{get_or, get_or-map}
use Rattle.base.specs.Join.{Word}
use Rattle.base.specs.Utf8.{form2}
use Rattle.settings.specs.Settings.{Settings}
use Rattle.words.specs.Part.{part}
use Rattle.base.specs.Same.{same_text}
use Rattle.base.proofs.Same.{same_is}
use Rattle.tables.proofs.Tests.{all, all_at, both_hold}
use Rattle.uk.specs.Pool.{uk_pool}
use Rattle.uk_money.specs.NounTables.{noun2st_group_hard_declensions, noun2st_group_soft_declensions, noun1st_group_soft_declensions_vowel, noun1st_group_hard_declensions, adjective_hard_masculine, hryvnias, kopiykas}
use Rattle.uk_money.specs.Nouns.{Name, endings, form_of, name_forms}
use Rattle.uk_money.specs.Currencies.{Currency, currencies}
use Rattle.uk_money.specs.Rows.{class_at, forms_in, Row, past, currency_at}
use Rattle.uk_money.proofs.Listed as places

-- a name's gender and words, and those of a row
abbrev told : Name → ℕ × (Settings → List Word)
told name = (name.gender, λ S. name_forms S name)

abbrev told_in : List ℕ → ℕ × (Settings → List Word)
told_in row = (get_or row 3 0, λ S. forms_in S row)

-- the class and the gender of a row are in their ranges
abbrev small : List ℕ → Bool
small row = ltb (get_or row 2 0) 8 && ltb (get_or row 3 0) 3

-- of the names of main units, or of fractions, and a table of rows: tests over the whole, and what they tell of one
rows : (side : Currency → Name) (table : List (List ℕ)) → map (λ c. told (side c)) currencies ≡ map told_in table → told (side past) ≡ told_in []
    → all 0 44 (λ i. small (get_or table i [])) ≡ true → (i : ℕ) → i < 44 → Row (side (currency_at i)) (get_or table i [])
rows side table e z s i h =
    let row : List ℕ = get_or table i [] in
    let t : told (side (currency_at i)) ≡ told_in row =
    sym (get_or-map (λ c. told (side c)) currencies i past) ∙ ap (λ l. get_or l i (told (side past))) e ∙ ap (get_or (map told_in table) i) z ∙ get_or-map told_in table i [] in
    let b = both_hold (ltb (get_or row 2 0) 8) (ltb (get_or row 3 0) 3) (all_at 0 44 (λ i. small (get_or table i [])) s i (omega arith) h) in
    record { gender = ap (λ p. p.0) t; forms = λ S. ap (λ p. p.1 S) t; class_below = ltb-true (get_or row 2 0) 8 b.0; gender_below = ltb-true (get_or row 3 0) 3 b.1 }

pub main_rows : (i : ℕ) → i < 44 → Row (currency_at i).main (get_or places.main i [])
unfolding currencies name_forms form_of part uk_pool
main_rows = rows (λ c. c.main) places.main refl refl refl

pub fraction_rows : (i : ℕ) → i < 44 → Row (currency_at i).fraction (get_or places.fraction i [])
unfolding currencies name_forms form_of part uk_pool
fraction_rows = rows (λ c. c.fraction) places.fraction refl refl refl

-- the genders of names
pub main_gender : (i : ℕ) → i < 44 → (currency_at i).main.gender < 3
main_gender i h = let r = main_rows i h in rw r.gender r.gender_below

pub fraction_gender : (i : ℕ) → i < 44 → (currency_at i).fraction.gender < 3
fraction_gender i h = let r = fraction_rows i h in rw r.gender r.gender_below

-- the endings
entry : ℕ → ℕ → Bool
unfolding part uk_pool endings form2 noun2st_group_hard_declensions noun2st_group_soft_declensions noun1st_group_soft_declensions_vowel noun1st_group_hard_declensions adjective_hard_masculine hryvnias kopiykas
entry k p = same_text (part uk_pool (get_or (get_or places.endings k []) p 0)) (form2 (endings (class_at k)) (p / 6) (p % 6))

entries : all 0 8 (λ k. all 0 12 (entry k)) ≡ true
unfolding entry
entries = refl

pub ending_at : (k p : ℕ) → k < 8 → p < 12 → part uk_pool (get_or (get_or places.endings k []) p 0) ≡ form2 (endings (class_at k)) (p / 6) (p % 6)
unfolding entry
ending_at k p h g =
    same_is (part uk_pool (get_or (get_or places.endings k []) p 0)) (form2 (endings (class_at k)) (p / 6) (p % 6))
    (all_at 0 12 (entry k) (all_at 0 8 (λ k. all 0 12 (entry k)) entries k (omega arith) h) p (omega arith) g)
