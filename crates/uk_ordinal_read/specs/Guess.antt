-- The number that the reader makes of any bytes, as an ordinal and as a year. Its words are compared with the bytes afterwards, so nothing here has to be
-- believed.
-- Assumes nothing.
use Rattle.std.specs.Prelude.{ℕ, ◌+◌, ◌-◌, ◌%◌, Bool, false, List, ◌∷◌, eqb, length, get_or, set}
use Rattle.base.specs.Join.{Word, spaced_by}
use Rattle.base.specs.Signs.{space, point}
use Rattle.figures.specs.Groups.{total}
use Rattle.settings.specs.Settings.{Settings}
use Rattle.tokens.specs.Tokens.{split}
use Rattle.uk.specs.Ukrainian.{ukrainian_orders}
use Rattle.uk_read.specs.Reading.{sums}
use Rattle.uk_ordinal.specs.Ordinal.{flexion}
use Rattle.uk_ordinal.specs.Year.{year_noun, era_words}
use Rattle.uk_ordinal_read.specs.LastWord.{last_word, before_last, without, stem_order, stem_value}

-- groups of which one has so many more
abbrev pub added : ℕ → ℕ → List ℕ → List ℕ
added order value gs = set gs order ((get_or gs order 0 + value) % 1000)

-- the last word without an ending: a soft one is as long as the hard one, or has one letter more, which stays with the stem
abbrev pub stem_of : Settings → List ℕ → Word
stem_of S s = without (length (flexion S false)) (last_word s)

-- the groups of an ordinal: those of the words before the last, and what the last one says
unfoldable pub ordinal_groups : Settings → List ℕ → List ℕ
ordinal_groups S s = added (stem_order (stem_of S s)) (stem_value (stem_of S s)) (sums ukrainian_orders (split (before_last s)))

-- its number
abbrev pub ordinal_number : Settings → List ℕ → ℕ
ordinal_number S s = total (ordinal_groups S s)

-- the bytes end as those of an early year: in a full stop
abbrev pub seems_early : List ℕ → Bool
seems_early s = eqb (get_or s (length s - 1) 0) point

-- a year without the words behind its ordinal
unfoldable pub year_ordinal : Settings → Bool → List ℕ → List ℕ
year_ordinal S early s = without (length (spaced_by space (year_noun S ∷ era_words early))) s
