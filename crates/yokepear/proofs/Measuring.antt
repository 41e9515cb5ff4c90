-- Measuring (02, W1), over all spelling calls: of the measuring call and of the spelling call only their contracts are known. m is any measure
-- and r any answer, for a buffer xs left as ys, that they allow.
-- Assumes nothing.
use Prim.Native.Nat.{ℕ, suc}
use mathlib.Core.Path.{◌≡◌, refl, sym, ap, ◌∙◌}
use mathlib.Core.List.{List}
use lib.ListN.{length}
use Rattle.base.specs.Answer.{replied, Answers}
use Rattle.base.specs.Divide.{divided, NoneEmpty}
use Rattle.base.specs.Measure.{measured, Foretells}
use Rattle.base.specs.Signs.{space}
use Rattle.base.specs.declared.Answer.{Answer}
use Rattle.base.specs.declared.Measure.{Measure}
use Rattle.base.proofs.Foretold.{foretold}
use Rattle.base.proofs.Measures.{of_spelled}
use Rattle.base.proofs.Words.{words_count}
use Rattle.settings.specs.Settings.{new_spelling, french_settings, french_ranges}
use Rattle.settings.proofs.Ranges.{unrefused}
use Rattle.figures.specs.Text.{value, negative, unsigned, well_formed}
use Rattle.figures.specs.Refusals.{french_digit_limit, ordinal_refusals}
use Rattle.figures.proofs.Laws.Refusals.{passed, passed_held}
use Rattle.fr.proofs.OneWord.{reformed_cardinal, reformed_ordinal}
use Rattle.yokepear.specs.Calls.{SpellingCall, spelling_of, to_french_cardinal, to_french_ordinal}
use Rattle.yokepear.proofs.Words.{no_word_empty}

module _ (call : SpellingCall) {m : Measure} (e : m ≡ measured (spelling_of call)) where
  -- the measure is that of what the spelling call writes
  pub measure_foretells : {r : Answer} {xs ys : List ℕ} → Answers r xs ys (replied (spelling_of call) xs) → Foretells m r xs ys
  measure_foretells a = rw e (foretold (spelling_of call) a)

  -- its words are what spaces divide the phrase into, and none of them is empty
  pub words_are : (spelling_of call).refusal ≡ 0 → (m.words ≡ length (divided space (spelling_of call).phrase)) × NoneEmpty (divided space (spelling_of call).phrase)
  words_are z = (rw (e, ← of_spelled (spelling_of call) z) (sym (words_count (spelling_of call).phrase)), no_word_empty call z)

-- a reformed phrase is one word
module _ (feminine region : ℕ) (text : List ℕ) where
  pub reformed_cardinal_word : let call = spelling_of (to_french_cardinal feminine new_spelling region text) in call.refusal ≡ 0 → (measured call).words ≡ 1
  reformed_cardinal_word z =
      sym (ap (λ (m : Measure). m.words) (of_spelled (spelling_of (to_french_cardinal feminine new_spelling region text)) z))
      ∙ ap suc (reformed_cardinal (french_settings feminine new_spelling region) refl (negative text) (value (unsigned text)))

  pub reformed_ordinal_word : let call = spelling_of (to_french_ordinal feminine new_spelling region text) in call.refusal ≡ 0 → (measured call).words ≡ 1
  reformed_ordinal_word z =
      let S = french_settings feminine new_spelling region in
      let u = unrefused {rs = french_ranges S} {cs = ordinal_refusals french_digit_limit text} z in
      let h = passed_held 34 text (passed (well_formed text) (negative text) (length (unsigned text)) 102 u.others) in
      sym (ap (λ (m : Measure). m.words) (of_spelled (spelling_of (to_french_ordinal feminine new_spelling region text)) z)) ∙ ap suc (reformed_ordinal S refl (value (unsigned text)) h)
