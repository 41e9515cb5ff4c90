-- The endings of digit ordinals, those that overlap sharing their bytes: it ties the code to the tables. Made by tools/gen_words.py.
-- Assumes nothing.
use Rattle.std.specs.Prelude.{ℕ, List}
use Rattle.base.specs.Utf8.{utf8}

-- all of them, one over another
unfoldable pub short_pool : List ℕ
short_pool =
    utf8 "мимуаейхяєіїгою"
