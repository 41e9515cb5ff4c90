-- The code's tables of places as lists. Made by tools/gen_words.py.
-- Assumes nothing.
use Prim.Native.Nat.{ℕ}
use mathlib.Core.List.{List, [], ◌∷◌}

abbrev pub units : List ℕ
units =
    0 ∷ 2722 ∷ 1764 ∷ 2485 ∷ 2806 ∷ 4 ∷ 3043 ∷ 2004 ∷ 2244 ∷ 284 ∷
    []

abbrev pub teens : List ℕ
teens =
    203 ∷ 1844 ∷ 1205 ∷ 966 ∷ 528 ∷ 846 ∷ 1565 ∷ 1928 ∷ 2168 ∷ 208 ∷
    []

abbrev pub tens : List ℕ
tens =
    0 ∷ 0 ∷ 2405 ∷ 1086 ∷ 368 ∷ 9 ∷ 2568 ∷ 2008 ∷ 2248 ∷ 687 ∷
    []

abbrev pub hundreds : List (List ℕ)
hundreds =
    (0 ∷ 0 ∷ 13169 ∷ 13770 ∷ 12731 ∷ 12969 ∷ 13968 ∷ 14129 ∷ 13369 ∷ 13569 ∷ []) ∷
    (0 ∷ 0 ∷ 7729 ∷ 11450 ∷ 6571 ∷ 7529 ∷ 10288 ∷ 12529 ∷ 7929 ∷ 8129 ∷ []) ∷
    []

abbrev pub megas : List ℕ
megas =
    0 ∷ 1445 ∷ 9287 ∷ 8928 ∷ 9127 ∷ 8728 ∷ 12368 ∷ 8529 ∷ 6331 ∷ 5772 ∷ 6811 ∷ 6052 ∷
    10450 ∷ 10651 ∷ 11930 ∷ 12131 ∷ 9809 ∷ 7290 ∷ 8329 ∷ 7050 ∷ 3690 ∷ 3291 ∷ 5493 ∷ 10014 ∷
    5213 ∷ 4574 ∷ 10894 ∷ 4255 ∷ 3538 ∷ 3139 ∷ 4894 ∷ 3935 ∷ 11173 ∷ 11654 ∷
    []

abbrev pub zero : ℕ
zero =
    9725

abbrev pub moins : ℕ
moins =
    9605

abbrev pub une : ℕ
une =
    2723

abbrev pub et : ℕ
et =
    2762

abbrev pub quatre_vingt : ℕ
quatre_vingt =
    2812

abbrev pub cent : ℕ
cent =
    1684

abbrev pub premier : ℕ
premier =
    9447

abbrev pub ieme : ℕ
ieme =
    1325
