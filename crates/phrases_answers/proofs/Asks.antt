-- Laws of what a line asks for: its settings, the text that is left of it, and the call.
-- Assumes nothing.
use Prim.Native.Nat.{ℕ, ◌≤◌}
use mathlib.Core.Path.{◌≡◌, refl, sym, ◌∙◌}
use mathlib.Core.Logic.{◌⊎◌, inl, inr}
use mathlib.Core.Bool.{true, false}
use mathlib.Core.List.{List, [], ◌∷◌}
use mathlib.Core.Option.{Option, none}
use borrow.Author.Tests.{lt-ltb}
use Rattle.std.specs.Prelude.{Result, Ok, Err, is_err, Option as OptionOf, Some, None}
use Rattle.base.specs.Answer.{Spelling, replied, Answers}
use Rattle.base.specs.Refused.{answer_of}
use Rattle.base.specs.Room.{phrase_room}
use Rattle.base.specs.declared.Refusal.{Refusal}
use Rattle.base.proofs.Fronts.{and_false}
use Rattle.settings.specs.Settings.{Settings, french_settings, ukrainian_ranges, french_ranges, within, Within}
use Rattle.settings.specs.Chosen.{numbers_of, french_numbers_of, Chooses, ChoosesFrench}
use Rattle.settings.specs.declared.ukrainian.Ukrainian.{Ukrainian as UkrainianSettings}
use Rattle.settings.specs.declared.french.French.{French as FrenchSettings}
use Rattle.settings.proofs.Chosen.{settings_within, french_settings_within}
use Rattle.uk_calls.specs.UkCardinals.{uk_to_cardinal}
use Rattle.uk_ordinal_calls.specs.UkOrdinals.{uk_to_ordinal, uk_to_ordinal_num, year_text}
use Rattle.uk_money_calls.specs.MoneyCalls.{uk_to_currency}
use Rattle.fr_calls.specs.FrCalls.{fr_to_cardinal, fr_to_ordinal}
use Rattle.phrases_forms.specs.Line.{words_of, kind_of, language_of, gender_of, grammatical_number_of, case_of, feminine_of, reformed_of, region_of, run, inner, closed}
use Rattle.phrases_forms.specs.Cuts.{next_word, after_space, text_left, code_left}
use Rattle.phrases_forms.specs.declared.Kind.{Kind}
use Rattle.phrases_forms.specs.declared.Kind.TheVariants.{Card, Ord, Num, Year, Money}
use Rattle.phrases_forms.specs.declared.Language.{Language}
use Rattle.phrases_forms.specs.declared.Language.TheVariants.{Ukrainian, French}
use Rattle.phrases_answers.specs.Answers.{line_settings, form}
use Rattle.phrases_answers.specs.Left.{ukrainian_left, french_left, after_three, settled_left, known_left}
use Rattle.phrases_answers.specs.Asked.{Told, Asked}
use Rattle.phrases_answers.proofs.Forms.{form_is}

-- where no call was made
pub untold : (o : Option Spelling) (r : OptionOf (Result ℕ Refusal)) (xs : List ℕ) → r ≡ None → o ≡ none → Asked o r xs xs
untold o r xs e f = rw e (f, refl)

-- a call with a text, where its bracket stands behind it, and none where it does not
module _ (call : List ℕ → Spelling) (s : List ℕ) (o : Option Spelling) (xs : List ℕ) (e : o ≡ text_left call s) where
  pub told_text : (t : List ℕ) (r : Result ℕ Refusal) (ys : List ℕ) → (closed s ≡ true) × (t ≡ inner s) → Answers (answer_of r) xs ys (replied (call t) xs) → (answer_of r).length ≤ phrase_room
      → Told o r xs ys
  told_text t r ys (c, i) a h = record { spelling = call t; asked = e ∙ rw (c, i) refl; answered = a; short = h }

  pub untold_text : (r : OptionOf (Result ℕ Refusal)) → r ≡ None → closed s ≡ false → Asked o r xs xs
  untold_text r f c = untold o r xs f (e ∙ rw c refl)

-- the same with a code before the text
module _ (call : List ℕ → List ℕ → Spelling) (k s : List ℕ) (o : Option Spelling) (xs : List ℕ) (e : o ≡ code_left call k s) where
  pub told_code : (t : List ℕ) (r : Result ℕ Refusal) (ys : List ℕ) → run k ≡ true → (closed s ≡ true) × (t ≡ inner s) → Answers (answer_of r) xs ys (replied (call k t) xs)
      → (answer_of r).length ≤ phrase_room → Told o r xs ys
  told_code t r ys u (c, i) a h = record { spelling = call k t; asked = e ∙ rw (u, c, i) refl; answered = a; short = h }

  pub no_code : run k ≡ false → o ≡ none
  no_code u = e ∙ rw u refl

  pub untold_code : (r : OptionOf (Result ℕ Refusal)) → r ≡ None → closed s ≡ false → Asked o r xs xs
  untold_code r f c = untold o r xs f (e ∙ rw (c, and_false (run k)) refl)

-- settings that are chosen are in their ranges
holds : (rs : List (ℕ × ℕ)) → Within rs → within rs ≡ true
holds [] w = refl
holds (r ∷ rs) w = rw (lt-ltb r.0 r.1 w.0) (holds rs w.1)

pub within_uk : (r : Result UkrainianSettings Refusal) (S : Settings) → Chooses r S → is_err r ≡ false → within (ukrainian_ranges S) ≡ true
within_uk (Ok s) S k e = rw (sym (k.chosen s refl)) (holds (ukrainian_ranges (numbers_of s)) (settings_within s))
within_uk (Err f) S k e = absurd (cc)

without_uk : (r : Result UkrainianSettings Refusal) (S : Settings) → Chooses r S → is_err r ≡ true → within (ukrainian_ranges S) ≡ false
without_uk (Ok s) S k e = absurd (cc)
without_uk (Err f) S k e = (k.refused f refl).1

within_fr : (r : Result FrenchSettings Refusal) (S : Settings) → ChoosesFrench r S → is_err r ≡ false → within (french_ranges S) ≡ true
within_fr (Ok s) S k e = rw (sym (k.chosen s refl)) (holds (french_ranges (french_numbers_of s)) (french_settings_within s))
within_fr (Err f) S k e = absurd (cc)

without_fr : (r : Result FrenchSettings Refusal) (S : Settings) → ChoosesFrench r S → is_err r ≡ true → within (french_ranges S) ≡ false
without_fr (Ok s) S k e = absurd (cc)
without_fr (Err f) S k e = (k.refused f refl).1

-- from the settings' words to what is left behind them
module _ (k : Kind) (s : List ℕ) (x y z : ℕ) where
  abbrev UkNamed : Type 0
  UkNamed = (x ≡ gender_of (next_word s)) × (y ≡ grammatical_number_of (next_word (after_space s))) × (z ≡ case_of (next_word (after_space (after_space s))))

  abbrev FrNamed : Type 0
  FrNamed = (x ≡ feminine_of (next_word s)) × (y ≡ reformed_of (next_word (after_space s))) × (z ≡ region_of (next_word (after_space (after_space s))))

  pub settled_uk : (r : Result UkrainianSettings Refusal) (t : List ℕ) → UkNamed → t ≡ after_three s → Chooses r (line_settings x y z) → is_err r ≡ false
      → settled_left k Ukrainian s ≡ ukrainian_left k (line_settings x y z) t
  unfolding settled_left
  settled_uk r t n et c e = let i = within_uk r (line_settings x y z) c e in rw (← n.0, ← n.1, ← n.2, ← et, i) refl

  pub unsettled_uk : (r : Result UkrainianSettings Refusal) → UkNamed → Chooses r (line_settings x y z) → is_err r ≡ true → settled_left k Ukrainian s ≡ none
  unfolding settled_left
  unsettled_uk r n c e = let i = without_uk r (line_settings x y z) c e in rw (← n.0, ← n.1, ← n.2, i) refl

  pub settled_fr : (r : Result FrenchSettings Refusal) (t : List ℕ) → FrNamed → t ≡ after_three s → ChoosesFrench r (french_settings x y z) → is_err r ≡ false
      → settled_left k French s ≡ french_left k (french_settings x y z) t
  unfolding settled_left
  settled_fr r t n et c e = let i = within_fr r (french_settings x y z) c e in rw (← n.0, ← n.1, ← n.2, ← et, i) refl

  pub unsettled_fr : (r : Result FrenchSettings Refusal) → FrNamed → ChoosesFrench r (french_settings x y z) → is_err r ≡ true → settled_left k French s ≡ none
  unfolding settled_left
  unsettled_fr r n c e = let i = without_fr r (french_settings x y z) c e in rw (← n.0, ← n.1, ← n.2, i) refl

-- what is left of a form of each kind
module _ (k : Kind) (S : Settings) (s : List ℕ) where
  pub uk_card : k ≡ Card → ukrainian_left k S s ≡ text_left (uk_to_cardinal S) s
  unfolding ukrainian_left
  uk_card e = rw e refl

  pub uk_ord : k ≡ Ord → ukrainian_left k S s ≡ text_left (uk_to_ordinal S) s
  unfolding ukrainian_left
  uk_ord e = rw e refl

  pub uk_num : k ≡ Num → ukrainian_left k S s ≡ text_left (uk_to_ordinal_num S) s
  unfolding ukrainian_left
  uk_num e = rw e refl

  pub uk_year : k ≡ Year → ukrainian_left k S s ≡ text_left (year_text S) s
  unfolding ukrainian_left
  uk_year e = rw e refl

  pub uk_money : (w t : List ℕ) → (w ≡ next_word s) × (t ≡ after_space s) → k ≡ Money → ukrainian_left k S s ≡ code_left (uk_to_currency S) w t
  unfolding ukrainian_left
  uk_money w t (f, g) e = rw (e, f, g) refl

  pub fr_card : k ≡ Card → french_left k S s ≡ text_left (fr_to_cardinal S) s
  unfolding french_left
  fr_card e = rw e refl

  pub fr_ord : k ≡ Ord → french_left k S s ≡ text_left (fr_to_ordinal S) s
  unfolding french_left
  fr_ord e = rw e refl

  pub fr_none : (k ≡ Num) ⊎ ((k ≡ Year) ⊎ (k ≡ Money)) → french_left k S s ≡ none
  unfolding french_left
  fr_none (inl e) = rw e refl
  fr_none (inr (inl e)) = rw e refl
  fr_none (inr (inr e)) = rw e refl

-- from the line to its kind, its language, and what is left behind them
module _ (s w t v u : List ℕ) (a : (w ≡ next_word s) × (t ≡ after_space s)) (b : (v ≡ next_word t) × (u ≡ after_space t)) where
  pub known : (k : OptionOf Kind) (l : OptionOf Language) → k ≡ kind_of w → l ≡ language_of v → form (words_of s) ≡ known_left k l u
  known k l e f = form_is s ∙ rw (← a.0, ← a.1, ← b.0, ← b.1, ← e, ← f) refl

  pub both_known : (k : Kind) (l m : Language) → Some k ≡ kind_of w → Some l ≡ language_of v → l ≡ m → form (words_of s) ≡ settled_left k m u
  unfolding known_left
  both_known k l m e f g = known (Some k) (Some l) e f ∙ rw g refl

  pub no_kind : None ≡ kind_of w → form (words_of s) ≡ none
  unfolding known_left
  no_kind e = known None (language_of v) e refl

  pub no_language : (k : Kind) → Some k ≡ kind_of w → None ≡ language_of v → form (words_of s) ≡ none
  unfolding known_left
  no_language k e f = known (Some k) None e f

pub asked_as : (o p : Option Spelling) (r : OptionOf (Result ℕ Refusal)) (xs ys : List ℕ) → o ≡ p → Asked p r xs ys → Asked o r xs ys
asked_as o p r xs ys e h = rw e h
