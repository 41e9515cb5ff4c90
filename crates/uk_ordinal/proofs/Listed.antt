-- The code's tables of places as lists. Made by tools/gen_words.py.
-- Assumes nothing.
use Prim.Native.Nat.{ℕ}
use mathlib.Core.List.{List, [], ◌∷◌}

abbrev pub ordinal_zero_base : ℕ
ordinal_zero_base =
    23012

abbrev pub one_base : ℕ
one_base =
    30128

abbrev pub ordinal_unit_bases : List (List ℕ)
ordinal_unit_bases =
    (34288 ∷ 32328 ∷ 27528 ∷ 15414 ∷ 1048 ∷ 24928 ∷ 28408 ∷ 3450 ∷ 12 ∷ []) ∷
    (34288 ∷ 32328 ∷ 27528 ∷ 15414 ∷ 43169 ∷ 24928 ∷ 28408 ∷ 3450 ∷ 40453 ∷ []) ∷
    (34288 ∷ 32328 ∷ 27528 ∷ 15414 ∷ 46127 ∷ 24928 ∷ 28408 ∷ 3450 ∷ 41051 ∷ []) ∷
    []

abbrev pub ordinal_tens_bases : List (List ℕ)
ordinal_tens_bases =
    (1210 ∷ 5214 ∷ 25374 ∷ 33614 ∷ 1058 ∷ 2978 ∷ 30576 ∷ 30500 ∷ 6018 ∷ []) ∷
    (1210 ∷ 5214 ∷ 25374 ∷ 33614 ∷ 43179 ∷ 2978 ∷ 30576 ∷ 30500 ∷ 50179 ∷ []) ∷
    (1210 ∷ 5214 ∷ 25374 ∷ 33614 ∷ 46137 ∷ 2978 ∷ 30576 ∷ 30500 ∷ 52777 ∷ []) ∷
    []

abbrev pub hundred_base : ℕ
hundred_base =
    6686

abbrev pub adjective_hard_flexions_singular : List (List ℕ)
adjective_hard_flexions_singular =
    (21724 ∷ 22486 ∷ 28486 ∷ 21724 ∷ 20524 ∷ 28486 ∷ []) ∷
    (322 ∷ 30244 ∷ 8804 ∷ 18802 ∷ 12684 ∷ 8804 ∷ []) ∷
    (42 ∷ 22486 ∷ 28486 ∷ 42 ∷ 20524 ∷ 28486 ∷ []) ∷
    []

abbrev pub adjective_hard_flexions_plural : List ℕ
adjective_hard_flexions_plural =
    3002 ∷ 37404 ∷ 20524 ∷ 37404 ∷ 20526 ∷ 37404 ∷
    []

abbrev pub adjective_soft_flexions_singular : List (List ℕ)
adjective_soft_flexions_singular =
    (8804 ∷ 22448 ∷ 28448 ∷ 8804 ∷ 21364 ∷ 28448 ∷ []) ∷
    (162 ∷ 38326 ∷ 8804 ∷ 12722 ∷ 19566 ∷ 8804 ∷ []) ∷
    (20642 ∷ 22448 ∷ 28448 ∷ 20642 ∷ 21364 ∷ 28448 ∷ []) ∷
    []

abbrev pub adjective_soft_flexions_plural : List ℕ
adjective_soft_flexions_plural =
    3002 ∷ 29804 ∷ 21364 ∷ 29804 ∷ 37326 ∷ 29804 ∷
    []

abbrev pub year : List (List ℕ)
year =
    (29486 ∷ 31008 ∷ 31008 ∷ 29486 ∷ 17570 ∷ 18608 ∷ []) ∷
    (18448 ∷ 30330 ∷ 16890 ∷ 18448 ∷ 16892 ∷ 35610 ∷ []) ∷
    []

abbrev pub adjective_n : ℕ
adjective_n =
    802

abbrev pub before_era : ℕ
before_era =
    33164

abbrev pub our_era : ℕ
our_era =
    28886

abbrev pub ordinal_hard_flexions_singular_short : List (List ℕ)
ordinal_hard_flexions_singular_short =
    (242 ∷ 484 ∷ 84 ∷ 242 ∷ 2 ∷ 84 ∷ []) ∷
    (162 ∷ 442 ∷ 242 ∷ 122 ∷ 524 ∷ 242 ∷ []) ∷
    (202 ∷ 484 ∷ 84 ∷ 202 ∷ 2 ∷ 84 ∷ []) ∷
    []

abbrev pub ordinal_soft_flexions_singular_short : List (List ℕ)
ordinal_soft_flexions_singular_short =
    (242 ∷ 484 ∷ 84 ∷ 242 ∷ 2 ∷ 84 ∷ []) ∷
    (322 ∷ 442 ∷ 242 ∷ 562 ∷ 524 ∷ 242 ∷ []) ∷
    (362 ∷ 484 ∷ 84 ∷ 362 ∷ 2 ∷ 84 ∷ []) ∷
    []

abbrev pub ordinal_flexions_plural_short : List ℕ
ordinal_flexions_plural_short =
    402 ∷ 282 ∷ 2 ∷ 282 ∷ 4 ∷ 282 ∷
    []
