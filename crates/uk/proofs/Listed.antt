-- The code's tables of places as lists. Made by tools/gen_words.py.
-- Assumes nothing.
use Prim.Native.Nat.{ℕ}
use mathlib.Core.List.{List, [], ◌∷◌}

abbrev pub zeros : List ℕ
zeros =
    23008 ∷ 20768 ∷ 20968 ∷ 23008 ∷ 26330 ∷ 29328 ∷
    []

abbrev pub gendered : List (List (List ℕ))
gendered =
    ((9048 ∷ 35812 ∷ 37852 ∷ 9048 ∷ 20410 ∷ 37852 ∷ []) ∷ (18128 ∷ 30130 ∷ 22570 ∷ 29248 ∷ 36010 ∷ 22570 ∷ []) ∷ (18288 ∷ 35812 ∷ 37852 ∷ 18288 ∷ 20410 ∷ 37852 ∷ []) ∷ []) ∷
    ((5206 ∷ 11808 ∷ 5608 ∷ 5206 ∷ 5610 ∷ 11808 ∷ []) ∷ (16166 ∷ 11808 ∷ 5608 ∷ 16166 ∷ 5610 ∷ 11808 ∷ []) ∷ (5206 ∷ 11808 ∷ 5608 ∷ 5206 ∷ 5610 ∷ 11808 ∷ []) ∷ []) ∷
    []

abbrev pub teens_bases : List (List ℕ)
teens_bases =
    (1210 ∷ 9058 ∷ 7978 ∷ 25058 ∷ 4782 ∷ 7220 ∷ 34420 ∷ 27938 ∷ 27862 ∷ 584 ∷ []) ∷
    (1210 ∷ 9058 ∷ 7978 ∷ 25058 ∷ 4782 ∷ 51941 ∷ 34420 ∷ 27938 ∷ 27862 ∷ 42665 ∷ []) ∷
    (1210 ∷ 9058 ∷ 7978 ∷ 25058 ∷ 4782 ∷ 54779 ∷ 34420 ∷ 27938 ∷ 27862 ∷ 44703 ∷ []) ∷
    []

abbrev pub teens_flexions : List ℕ
teens_flexions =
    242 ∷ 522 ∷ 522 ∷ 242 ∷ 246 ∷ 522 ∷
    []

abbrev pub thousand_flexions : List (List ℕ)
thousand_flexions =
    (322 ∷ 3002 ∷ 3002 ∷ 18802 ∷ 13924 ∷ 3002 ∷ []) ∷
    (3002 ∷ 0 ∷ 444 ∷ 3002 ∷ 446 ∷ 4684 ∷ []) ∷
    []

abbrev pub mega_bases : List ℕ
mega_bases =
    24290 ∷ 26094 ∷ 32094 ∷ 57776 ∷ 47542 ∷ 47982 ∷ 48862 ∷ 52380 ∷ 55978 ∷ 59418 ∷ 39458 ∷ 59022 ∷
    47102 ∷ 44224 ∷ 39154 ∷ 41626 ∷ 48422 ∷ 42146 ∷ 38474 ∷ 39832 ∷ 38664 ∷
    []

abbrev pub mega_flexions : List (List ℕ)
mega_flexions =
    (0 ∷ 322 ∷ 18802 ∷ 0 ∷ 2724 ∷ 3002 ∷ []) ∷
    (522 ∷ 30444 ∷ 444 ∷ 522 ∷ 446 ∷ 522 ∷ []) ∷
    []

abbrev pub minus : ℕ
minus =
    21170
