-- What the speller says of a French ordinal (01, "French": "Ordinal").
-- Assumes nothing.
use Rattle.std.specs.Prelude.{ℕ, false, cond, List, [], ◌∷◌, eqb}
use Rattle.base.specs.Utf8.{utf8}
use Rattle.base.specs.Join.{Word, joined_by}
use Rattle.settings.specs.Settings.{Settings}
use Rattle.cardinals.specs.Cardinal.{cardinal_words}
use Rattle.fr.specs.Rules.{french_joiner, nth_words, french}

-- "1 is `premier`; else the cardinal", with the last word's ending
unfoldable pub nth_of : Settings → ℕ → List Word
nth_of S n = cond (eqb n 1) (utf8 "premier" ∷ []) (nth_words (cardinal_words (french S) false n))

-- the phrase
unfoldable pub nth_phrase : Settings → ℕ → List ℕ
nth_phrase S n = joined_by (french_joiner S) (nth_of S n)
