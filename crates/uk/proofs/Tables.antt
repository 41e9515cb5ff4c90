-- The code's tables of places hold the texts of uk.rs's, with every sign for the apostrophe: one computed test for each.
-- Assumes nothing.
use Prim.Native.Nat.{ℕ, ◌+◌, ◌*◌, ◌<◌}
use Prim.Native.String.{String}
use mathlib.Core.Path.{◌≡◌, refl}
use mathlib.Core.Bool.{Bool, true}
use mathlib.Core.List.{List, []}
use native.Mathlib.Omega.{arith}
use lib.ListN.{get_or}
use Rattle.tables.proofs.Tests.{all, all_at}
use Rattle.base.specs.Same.{same_text}
use Rattle.base.specs.Utf8.{utf8, form1, form2, form3}
use Rattle.base.proofs.Same.{same_is}
use Rattle.settings.specs.Chosen.{gender_number, grammatical_number, case_number, apostrophe_number}
use Rattle.settings.specs.declared.ukrainian.Gender.{Gender}
use Rattle.settings.specs.declared.ukrainian.Number.{Number}
use Rattle.settings.specs.declared.ukrainian.Case.{Case}
use Rattle.settings.specs.declared.ukrainian.Apostrophe.{Apostrophe}
use Rattle.settings.proofs.Chosen.{case_bound, apostrophe_bound, gender_index, number_index, case_index, apostrophe_index, gender_index_lem, number_index_lem, case_index_lem, apostrophe_index_lem}
use Rattle.words.specs.Part.{part}
use Rattle.words.proofs.Tables.{at1, at2, at3}
use Rattle.meanings.specs.Lookup.{Entries, lookup}
use Rattle.uk_digits.specs.Places.{unit_places, ten_places, hundred_places}
use Rattle.uk.specs.Apostrophes.{by_apostrophe1, by_apostrophe2}
use Rattle.uk.specs.Pool.{uk_pool}
use Rattle.uk.specs.UkTables as words
use Rattle.uk.proofs.Listed as places

pub zero_at : (case : Case) → part uk_pool (get_or places.zeros (case_index case) 0) ≡ form1 words.zeros (case_number case)
unfolding part uk_pool words.zeros
zero_at case = rw (case_index_lem case) (at1 uk_pool places.zeros words.zeros refl (case_number case))

pub gendered_at : (i : ℕ) (gender : Gender) (case : Case)
    → part uk_pool (get_or (get_or (get_or places.gendered i []) (gender_index gender) []) (case_index case) 0) ≡ form3 words.gendered i (gender_number gender) (case_number case)
unfolding part uk_pool words.gendered
gendered_at i gender case = rw (gender_index_lem gender, case_index_lem case) (at3 uk_pool places.gendered words.gendered refl i (gender_number gender) (case_number case))

-- the word of a digit, by apostrophe, row and case: in this order its place stands among the places
module _ (rows : ℕ) (entries : Entries) (table : List (List String)) where
  abbrev place_at : ℕ → ℕ → ℕ → ℕ
  place_at a i j = lookup ((a * rows + i) * 6 + j) entries

  abbrev word_at : ℕ → ℕ → ℕ → List ℕ
  word_at a i j = form3 (by_apostrophe2 table) a i j

  abbrev placed? : Bool
  placed? = all 0 3 (λ a. all 0 rows (λ i. all 0 6 (λ j. same_text (part uk_pool (place_at a i j)) (word_at a i j))))

  placed : placed? ≡ true → (a i j : ℕ) → a < 3 → i < rows → j < 6 → part uk_pool (place_at a i j) ≡ word_at a i j
  placed t a i j p q r =
      same_is (part uk_pool (place_at a i j)) (word_at a i j)
      (all_at 0 6 (λ j. same_text (part uk_pool (place_at a i j)) (word_at a i j))
      (all_at 0 rows (λ i. all 0 6 (λ j. same_text (part uk_pool (place_at a i j)) (word_at a i j)))
      (all_at 0 3 (λ a. all 0 rows (λ i. all 0 6 (λ j. same_text (part uk_pool (place_at a i j)) (word_at a i j)))) t a (omega arith) p) i (omega arith) (omega arith)) j (omega arith) r)

  set : placed? ≡ true → (sign : Apostrophe) (i : ℕ) (case : Case) → i < rows → part uk_pool (place_at (apostrophe_index sign) i (case_index case)) ≡ word_at (apostrophe_number sign) i (case_number case)
  set t sign i case h = rw (apostrophe_index_lem sign, case_index_lem case) (placed t (apostrophe_number sign) i (case_number case) (apostrophe_bound sign) h (case_bound case))

pub unit_at : (sign : Apostrophe) (i : ℕ) (case : Case) → i < 7
    → part uk_pool (lookup ((apostrophe_index sign * 7 + i) * 6 + case_index case) unit_places) ≡ form3 (by_apostrophe2 words.units) (apostrophe_number sign) i (case_number case)
unfolding part uk_pool lookup unit_places form3 by_apostrophe2 words.units
unit_at = set 7 unit_places words.units refl

pub teen_at : (sign : Apostrophe) (i : ℕ) → part uk_pool (get_or (get_or places.teens_bases (apostrophe_index sign) []) i 0) ≡ form2 (by_apostrophe1 words.teens_bases) (apostrophe_number sign) i
unfolding part uk_pool by_apostrophe1 words.teens_bases
teen_at sign i = rw (apostrophe_index_lem sign) (at2 uk_pool places.teens_bases (by_apostrophe1 words.teens_bases) refl (apostrophe_number sign) i)

pub teen_ending_at : (case : Case) → part uk_pool (get_or places.teens_flexions (case_index case) 0) ≡ form1 words.teens_flexions (case_number case)
unfolding part uk_pool words.teens_flexions
teen_ending_at case = rw (case_index_lem case) (at1 uk_pool places.teens_flexions words.teens_flexions refl (case_number case))

pub ten_at : (sign : Apostrophe) (i : ℕ) (case : Case) → i < 8
    → part uk_pool (lookup ((apostrophe_index sign * 8 + i) * 6 + case_index case) ten_places) ≡ form3 (by_apostrophe2 words.tens) (apostrophe_number sign) i (case_number case)
unfolding part uk_pool lookup ten_places form3 by_apostrophe2 words.tens
ten_at = set 8 ten_places words.tens refl

pub hundred_at : (sign : Apostrophe) (i : ℕ) (case : Case) → i < 9
    → part uk_pool (lookup ((apostrophe_index sign * 9 + i) * 6 + case_index case) hundred_places) ≡ form3 (by_apostrophe2 words.hundreds) (apostrophe_number sign) i (case_number case)
unfolding part uk_pool lookup hundred_places form3 by_apostrophe2 words.hundreds
hundred_at = set 9 hundred_places words.hundreds refl

pub thousand_at : (number : Number) (case : Case)
    → part uk_pool (get_or (get_or places.thousand_flexions (number_index number) []) (case_index case) 0) ≡ form2 words.thousand_flexions (grammatical_number number) (case_number case)
unfolding part uk_pool words.thousand_flexions
thousand_at number case = rw (number_index_lem number, case_index_lem case) (at2 uk_pool places.thousand_flexions words.thousand_flexions refl (grammatical_number number) (case_number case))

pub scale_at : (i : ℕ) → part uk_pool (get_or places.mega_bases i 0) ≡ form1 words.mega_bases i
unfolding part uk_pool words.mega_bases
scale_at = at1 uk_pool places.mega_bases words.mega_bases refl

pub mega_at : (number : Number) (case : Case)
    → part uk_pool (get_or (get_or places.mega_flexions (number_index number) []) (case_index case) 0) ≡ form2 words.mega_flexions (grammatical_number number) (case_number case)
unfolding part uk_pool words.mega_flexions
mega_at number case = rw (number_index_lem number, case_index_lem case) (at2 uk_pool places.mega_flexions words.mega_flexions refl (grammatical_number number) (case_number case))

pub minus_at : part uk_pool places.minus ≡ utf8 "мінус"
unfolding part uk_pool
minus_at = refl
