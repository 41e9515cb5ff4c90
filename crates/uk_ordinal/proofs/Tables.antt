-- The code's tables of places hold the texts of uk.rs's: one computed test for each.
-- Assumes nothing.
use Prim.Native.Nat.{ℕ}
use mathlib.Core.Path.{◌≡◌, refl}
use mathlib.Core.List.{[]}
use lib.ListN.{get_or}
use Rattle.base.specs.Utf8.{utf8, form1, form2}
use Rattle.settings.specs.Chosen.{gender_number, grammatical_number, case_number, apostrophe_number}
use Rattle.settings.specs.declared.ukrainian.Gender.{Gender}
use Rattle.settings.specs.declared.ukrainian.Number.{Number}
use Rattle.settings.specs.declared.ukrainian.Case.{Case}
use Rattle.settings.specs.declared.ukrainian.Apostrophe.{Apostrophe}
use Rattle.settings.proofs.Chosen.{gender_index, number_index, case_index, apostrophe_index, gender_index_lem, number_index_lem, case_index_lem, apostrophe_index_lem}
use Rattle.words.specs.Part.{part}
use Rattle.words.proofs.Tables.{at1, at2}
use Rattle.uk.specs.Apostrophes.{by_apostrophe1}
use Rattle.uk.specs.Pool.{uk_pool}
use Rattle.uk_ordinal.specs.Pool.{short_pool}
use Rattle.uk_ordinal.specs.OrdinalTables as words
use Rattle.uk_ordinal.proofs.Listed as places

pub zero_at : part uk_pool places.ordinal_zero_base ≡ utf8 words.ordinal_zero_base
unfolding part uk_pool words.ordinal_zero_base
zero_at = refl

pub one_at : part uk_pool places.one_base ≡ utf8 words.one_base
unfolding part uk_pool words.one_base
one_at = refl

pub hundred_at : part uk_pool places.hundred_base ≡ utf8 words.hundred_base
unfolding part uk_pool words.hundred_base
hundred_at = refl

pub adjective_at : part uk_pool places.adjective_n ≡ utf8 "н"
unfolding part uk_pool
adjective_at = refl

pub before_at : part uk_pool places.before_era ≡ utf8 "до"
unfolding part uk_pool
before_at = refl

pub era_at : part uk_pool places.our_era ≡ utf8 "н.е."
unfolding part uk_pool
era_at = refl

pub unit_at : (sign : Apostrophe) (i : ℕ) → part uk_pool (get_or (get_or places.ordinal_unit_bases (apostrophe_index sign) []) i 0) ≡ form2 (by_apostrophe1 words.ordinal_unit_bases) (apostrophe_number sign) i
unfolding part uk_pool by_apostrophe1 words.ordinal_unit_bases
unit_at sign i = rw (apostrophe_index_lem sign) (at2 uk_pool places.ordinal_unit_bases (by_apostrophe1 words.ordinal_unit_bases) refl (apostrophe_number sign) i)

pub ten_at : (sign : Apostrophe) (i : ℕ) → part uk_pool (get_or (get_or places.ordinal_tens_bases (apostrophe_index sign) []) i 0) ≡ form2 (by_apostrophe1 words.ordinal_tens_bases) (apostrophe_number sign) i
unfolding part uk_pool by_apostrophe1 words.ordinal_tens_bases
ten_at sign i = rw (apostrophe_index_lem sign) (at2 uk_pool places.ordinal_tens_bases (by_apostrophe1 words.ordinal_tens_bases) refl (apostrophe_number sign) i)

pub hard_at : (gender : Gender) (case : Case)
    → part uk_pool (get_or (get_or places.adjective_hard_flexions_singular (gender_index gender) []) (case_index case) 0) ≡ form2 words.adjective_hard_flexions_singular (gender_number gender) (case_number case)
unfolding part uk_pool words.adjective_hard_flexions_singular
hard_at gender case = rw (gender_index_lem gender, case_index_lem case) (at2 uk_pool places.adjective_hard_flexions_singular words.adjective_hard_flexions_singular refl (gender_number gender) (case_number case))

pub hard_plural_at : (case : Case) → part uk_pool (get_or places.adjective_hard_flexions_plural (case_index case) 0) ≡ form1 words.adjective_hard_flexions_plural (case_number case)
unfolding part uk_pool words.adjective_hard_flexions_plural
hard_plural_at case = rw (case_index_lem case) (at1 uk_pool places.adjective_hard_flexions_plural words.adjective_hard_flexions_plural refl (case_number case))

pub soft_at : (gender : Gender) (case : Case)
    → part uk_pool (get_or (get_or places.adjective_soft_flexions_singular (gender_index gender) []) (case_index case) 0) ≡ form2 words.adjective_soft_flexions_singular (gender_number gender) (case_number case)
unfolding part uk_pool words.adjective_soft_flexions_singular
soft_at gender case = rw (gender_index_lem gender, case_index_lem case) (at2 uk_pool places.adjective_soft_flexions_singular words.adjective_soft_flexions_singular refl (gender_number gender) (case_number case))

pub soft_plural_at : (case : Case) → part uk_pool (get_or places.adjective_soft_flexions_plural (case_index case) 0) ≡ form1 words.adjective_soft_flexions_plural (case_number case)
unfolding part uk_pool words.adjective_soft_flexions_plural
soft_plural_at case = rw (case_index_lem case) (at1 uk_pool places.adjective_soft_flexions_plural words.adjective_soft_flexions_plural refl (case_number case))

pub short_hard_at : (gender : Gender) (case : Case)
    → part short_pool (get_or (get_or places.ordinal_hard_flexions_singular_short (gender_index gender) []) (case_index case) 0) ≡ form2 words.ordinal_hard_flexions_singular_short (gender_number gender) (case_number case)
unfolding part short_pool words.ordinal_hard_flexions_singular_short
short_hard_at gender case = rw (gender_index_lem gender, case_index_lem case) (at2 short_pool places.ordinal_hard_flexions_singular_short words.ordinal_hard_flexions_singular_short refl (gender_number gender) (case_number case))

pub short_soft_at : (gender : Gender) (case : Case)
    → part short_pool (get_or (get_or places.ordinal_soft_flexions_singular_short (gender_index gender) []) (case_index case) 0) ≡ form2 words.ordinal_soft_flexions_singular_short (gender_number gender) (case_number case)
unfolding part short_pool words.ordinal_soft_flexions_singular_short
short_soft_at gender case = rw (gender_index_lem gender, case_index_lem case) (at2 short_pool places.ordinal_soft_flexions_singular_short words.ordinal_soft_flexions_singular_short refl (gender_number gender) (case_number case))

pub short_plural_at : (case : Case) → part short_pool (get_or places.ordinal_flexions_plural_short (case_index case) 0) ≡ form1 words.ordinal_flexions_plural_short (case_number case)
unfolding part short_pool words.ordinal_flexions_plural_short
short_plural_at case = rw (case_index_lem case) (at1 short_pool places.ordinal_flexions_plural_short words.ordinal_flexions_plural_short refl (case_number case))

pub year_at : (number : Number) (case : Case) → part uk_pool (get_or (get_or places.year (number_index number) []) (case_index case) 0) ≡ form2 words.year (grammatical_number number) (case_number case)
unfolding part uk_pool words.year
year_at number case = rw (number_index_lem number, case_index_lem case) (at2 uk_pool places.year words.year refl (grammatical_number number) (case_number case))
