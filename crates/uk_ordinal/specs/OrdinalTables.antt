-- The tables of ordinals and years, as uk.rs has them (01, "Ukrainian ordinals, years, codes").
-- Assumes nothing.
use Prim.Native.String.{String}
use Rattle.std.specs.Prelude.{List, [], ◌∷◌}

-- `ORDINAL_ZERO_BASE`: 0
unfoldable pub ordinal_zero_base : String
ordinal_zero_base = "нульов"

-- `ONE_BASE`: 1 in a compound
unfoldable pub one_base : String
one_base = "одно"

-- `ORDINAL_UNIT_BASES`: 1 to 9
unfoldable pub ordinal_unit_bases : List String
ordinal_unit_bases =
    "перш" ∷ "друг" ∷ "трет" ∷ "четверт" ∷ "пʼят" ∷ "шост" ∷ "сьом" ∷ "восьм" ∷ "девʼят" ∷ []

-- `ORDINAL_TENS_BASES`: 10 to 90
unfoldable pub ordinal_tens_bases : List String
ordinal_tens_bases =
    "десят" ∷ "двадцят" ∷ "тридцят" ∷ "сороков" ∷ "пʼятдесят" ∷ "шістдесят" ∷ "сімдесят" ∷ "вісімдесят" ∷ "девʼяност" ∷ []

-- `HUNDRED_BASE`: every group that ends in 00
unfoldable pub hundred_base : String
hundred_base = "сот"

-- `ADJECTIVE_HARD_FLEXIONS_SINGULAR`, by gender and case
unfoldable pub adjective_hard_flexions_singular : List (List String)
adjective_hard_flexions_singular =
    ("ий" ∷ "ого" ∷ "ому" ∷ "ий" ∷ "им" ∷ "ому" ∷ []) ∷
    ("а" ∷ "ої" ∷ "ій" ∷ "у" ∷ "ою" ∷ "ій" ∷ []) ∷
    ("е" ∷ "ого" ∷ "ому" ∷ "е" ∷ "им" ∷ "ому" ∷ []) ∷ []

-- `ADJECTIVE_HARD_FLEXIONS_PLURAL`, by case
unfoldable pub adjective_hard_flexions_plural : List String
adjective_hard_flexions_plural =
    "і" ∷ "их" ∷ "им" ∷ "их" ∷ "ими" ∷ "их" ∷ []

-- `ADJECTIVE_SOFT_FLEXIONS_SINGULAR`, by gender and case
unfoldable pub adjective_soft_flexions_singular : List (List String)
adjective_soft_flexions_singular =
    ("ій" ∷ "ього" ∷ "ьому" ∷ "ій" ∷ "ім" ∷ "ьому" ∷ []) ∷
    ("я" ∷ "ьої" ∷ "ій" ∷ "ю" ∷ "ьою" ∷ "ій" ∷ []) ∷
    ("є" ∷ "ього" ∷ "ьому" ∷ "є" ∷ "ім" ∷ "ьому" ∷ []) ∷ []

-- `ADJECTIVE_SOFT_FLEXIONS_PLURAL`, by case
unfoldable pub adjective_soft_flexions_plural : List String
adjective_soft_flexions_plural =
    "і" ∷ "іх" ∷ "ім" ∷ "іх" ∷ "іми" ∷ "іх" ∷ []

-- `ORDINAL_HARD_FLEXIONS_SINGULAR_SHORT`, by gender and case
unfoldable pub ordinal_hard_flexions_singular_short : List (List String)
ordinal_hard_flexions_singular_short =
    ("й" ∷ "го" ∷ "му" ∷ "й" ∷ "м" ∷ "му" ∷ []) ∷
    ("а" ∷ "ї" ∷ "й" ∷ "у" ∷ "ою" ∷ "й" ∷ []) ∷
    ("е" ∷ "го" ∷ "му" ∷ "е" ∷ "м" ∷ "му" ∷ []) ∷ []

-- `ORDINAL_SOFT_FLEXIONS_SINGULAR_SHORT`, by gender and case
unfoldable pub ordinal_soft_flexions_singular_short : List (List String)
ordinal_soft_flexions_singular_short =
    ("й" ∷ "го" ∷ "му" ∷ "й" ∷ "м" ∷ "му" ∷ []) ∷
    ("я" ∷ "ї" ∷ "й" ∷ "ю" ∷ "ою" ∷ "й" ∷ []) ∷
    ("є" ∷ "го" ∷ "му" ∷ "є" ∷ "м" ∷ "му" ∷ []) ∷ []

-- `ORDINAL_FLEXIONS_PLURAL_SHORT`, by case
unfoldable pub ordinal_flexions_plural_short : List String
ordinal_flexions_plural_short =
    "і" ∷ "х" ∷ "м" ∷ "х" ∷ "ми" ∷ "х" ∷ []

-- `YEAR`, by grammatical number and case
unfoldable pub year : List (List String)
year =
    ("рік" ∷ "року" ∷ "року" ∷ "рік" ∷ "роком" ∷ "році" ∷ []) ∷
    ("роки" ∷ "років" ∷ "рокам" ∷ "роки" ∷ "роками" ∷ "роках" ∷ []) ∷ []
