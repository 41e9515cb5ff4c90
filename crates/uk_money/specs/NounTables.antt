-- The endings of the currency nouns (01, "Ukrainian money"), as uk.rs has them: by grammatical number, then case.
-- Assumes nothing.
use Prim.Native.String.{String}
use Rattle.std.specs.Prelude.{List, [], ◌∷◌}

-- `NOUN_2ST_GROUP_HARD_DECLENSIONS`: as долар
unfoldable pub noun2st_group_hard_declensions : List (List String)
noun2st_group_hard_declensions =
    ("" ∷ "а" ∷ "у" ∷ "а" ∷ "ом" ∷ "і" ∷ []) ∷
    ("и" ∷ "ів" ∷ "ам" ∷ "и" ∷ "ами" ∷ "ах" ∷ []) ∷ []

-- `NOUN_2ST_GROUP_SOFT_DECLENSIONS`: as юань
unfoldable pub noun2st_group_soft_declensions : List (List String)
noun2st_group_soft_declensions =
    ("ь" ∷ "я" ∷ "ю" ∷ "я" ∷ "єм" ∷ "і" ∷ []) ∷
    ("і" ∷ "ів" ∷ "ям" ∷ "і" ∷ "ями" ∷ "ях" ∷ []) ∷ []

-- `NOUN_1ST_GROUP_SOFT_DECLENSIONS_VOWEL`: as рупія
unfoldable pub noun1st_group_soft_declensions_vowel : List (List String)
noun1st_group_soft_declensions_vowel =
    ("я" ∷ "ї" ∷ "ї" ∷ "я" ∷ "єю" ∷ "ї" ∷ []) ∷
    ("ї" ∷ "й" ∷ "ям" ∷ "ї" ∷ "ями" ∷ "ях" ∷ []) ∷ []

-- `NOUN_1ST_GROUP_HARD_DECLENSIONS`: as єна
unfoldable pub noun1st_group_hard_declensions : List (List String)
noun1st_group_hard_declensions =
    ("а" ∷ "и" ∷ "і" ∷ "а" ∷ "ою" ∷ "і" ∷ []) ∷
    ("и" ∷ "" ∷ "ам" ∷ "и" ∷ "ами" ∷ "ах" ∷ []) ∷ []

-- the masculine row of `ADJECTIVE_HARD_FLEXIONS_SINGULAR`, and `ADJECTIVE_HARD_FLEXIONS_PLURAL`
unfoldable pub adjective_hard_masculine : List (List String)
adjective_hard_masculine =
    ("ий" ∷ "ого" ∷ "ому" ∷ "ий" ∷ "им" ∷ "ому" ∷ []) ∷
    ("і" ∷ "их" ∷ "им" ∷ "их" ∷ "ими" ∷ "их" ∷ []) ∷ []

-- `HRYVNIAS`: written out whole
unfoldable pub hryvnias : List (List String)
hryvnias =
    ("гривня" ∷ "гривні" ∷ "гривні" ∷ "гривню" ∷ "гривнею" ∷ "гривні" ∷ []) ∷
    ("гривні" ∷ "гривень" ∷ "гривням" ∷ "гривні" ∷ "гривнями" ∷ "гривнях" ∷ []) ∷ []

-- `KOPIYKAS`: written out whole
unfoldable pub kopiykas : List (List String)
kopiykas =
    ("копійка" ∷ "копійки" ∷ "копійці" ∷ "копійку" ∷ "копійкою" ∷ "копійці" ∷ []) ∷
    ("копійки" ∷ "копійок" ∷ "копійкам" ∷ "копійки" ∷ "копійками" ∷ "копійках" ∷ []) ∷ []
