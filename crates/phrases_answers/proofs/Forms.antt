-- A line that is split into words and matched asks for what the code finds as it goes through it from the front.
-- Assumes nothing.
use Prim.Native.Nat.{ℕ}
use mathlib.Core.Path.{◌≡◌, refl, sym, ◌∙◌}
use mathlib.Core.Bool.{Bool, true, false, cond, ◌&&◌}
use mathlib.Core.List.{List, [], ◌∷◌}
use lib.Dec.{ltb}
use mathlib.Core.Option.{Option, none}
use Rattle.std.specs.Prelude.{Option as OptionOf, Some, None}
use Rattle.base.specs.Answer.{Spelling}
use Rattle.base.specs.Join.{Word}
use Rattle.base.proofs.Fronts.{and_false}
use Rattle.settings.specs.Settings.{Settings}
use Rattle.uk_calls.specs.UkCardinals.{uk_to_cardinal}
use Rattle.uk_ordinal_calls.specs.UkOrdinals.{uk_to_ordinal, uk_to_ordinal_num, year_text}
use Rattle.uk_money_calls.specs.MoneyCalls.{uk_to_currency}
use Rattle.fr_calls.specs.FrCalls.{fr_to_cardinal, fr_to_ordinal}
use Rattle.phrases_forms.specs.Line.{words_of, kind_of, language_of, gender_of, grammatical_number_of, case_of, feminine_of, reformed_of, region_of}
use Rattle.base.specs.Divide.{divided}
use Rattle.phrases_forms.specs.Cuts.{next_word, after_space}
use Rattle.phrases_forms.specs.declared.Kind.{Kind}
use Rattle.phrases_forms.specs.declared.Kind.TheVariants.{Card, Ord, Num, Year, Money}
use Rattle.phrases_forms.specs.declared.Language.{Language}
use Rattle.phrases_forms.specs.declared.Language.TheVariants.{Ukrainian, French}
use Rattle.phrases_forms.proofs.Cutting.{Cut, one, more, cut, text_is, code_is}
use Rattle.phrases_answers.specs.Answers.{ukrainian_form, french_form, ukrainian_named, french_named, settled, form}
use Rattle.phrases_answers.specs.Left.{ukrainian_left, french_left, settled_left, known_left}

ukrainian_is : (k : Kind) (S : Settings) (s : List ℕ) → ukrainian_form k S (words_of s) ≡ ukrainian_left k S s
unfolding ukrainian_form ukrainian_left
ukrainian_is Card S s = text_is (uk_to_cardinal S) s
ukrainian_is Ord S s = text_is (uk_to_ordinal S) s
ukrainian_is Num S s = text_is (uk_to_ordinal_num S) s
ukrainian_is Year S s = text_is (year_text S) s
ukrainian_is Money S s = code_is (uk_to_currency S) s

french_is : (k : Kind) (S : Settings) (s : List ℕ) → french_form k S (words_of s) ≡ french_left k S s
unfolding french_form french_left
french_is Card S s = text_is (fr_to_cardinal S) s
french_is Ord S s = text_is (fr_to_ordinal S) s
french_is Num S s = refl
french_is Year S s = refl
french_is Money S s = refl

-- where no last word is left, nothing is asked for
ukrainian_none : (k : Kind) (S : Settings) → ukrainian_form k S [] ≡ ukrainian_left k S []
unfolding ukrainian_form ukrainian_left next_word after_space
ukrainian_none Card S = refl
ukrainian_none Ord S = refl
ukrainian_none Num S = refl
ukrainian_none Year S = refl
ukrainian_none Money S = refl

french_none : (k : Kind) (S : Settings) → french_form k S [] ≡ french_left k S []
unfolding french_form french_left
french_none Card S = refl
french_none Ord S = refl
french_none Num S = refl
french_none Year S = refl
french_none Money S = refl

-- a second or a third setting that is missing is out of range
no_second : (a b : Bool) (x : Option Spelling) → cond (a && (false && b)) x none ≡ none
no_second a b x = rw (and_false a) refl

no_third : (a b c : Bool) (x : Option Spelling) → cond (a && (b && (false && c))) x none ≡ none
no_third a b c x = rw (and_false b, and_false a) refl

-- what words of settings and behind them ask for
three : OptionOf Language → OptionOf Kind → List Word → Option Spelling
three l k [] = none
three l k (a ∷ []) = none
three l k (a ∷ b ∷ []) = none
three l k (a ∷ b ∷ c ∷ ws) = settled l k a b c ws

third_is : (l : Language) (k : Kind) (s : List ℕ) → Cut (after_space (after_space s))
    → words_of s ≡ next_word s ∷ words_of (after_space s) → words_of (after_space s) ≡ next_word (after_space s) ∷ words_of (after_space (after_space s))
    → three (Some l) (Some k) (words_of s) ≡ settled_left k l s
unfolding three settled settled_left
third_is Ukrainian k s (one w f a) u v = rw (u, v, w, a, ukrainian_none k _) refl
third_is Ukrainian k s (more w h) u v = rw (u, v, w, ukrainian_is k _ _) refl
third_is French k s (one w f a) u v = rw (u, v, w, a, french_none k _) refl
third_is French k s (more w h) u v = rw (u, v, w, french_is k _ _) refl

second_is : (l : Language) (k : Kind) (s : List ℕ) → Cut (after_space s) → words_of s ≡ next_word s ∷ words_of (after_space s) → three (Some l) (Some k) (words_of s) ≡ settled_left k l s
unfolding three settled_left case_of region_of next_word
second_is Ukrainian k s (one w f a) u = rw (u, w, a) (sym (no_third (ltb (gender_of (next_word s)) 3) (ltb (grammatical_number_of (next_word (after_space s))) 2) true _))
second_is French k s (one w f a) u = rw (u, w, a) (sym (no_third (ltb (feminine_of (next_word s)) 2) (ltb (reformed_of (next_word (after_space s))) 2) true _))
second_is l k s (more w h) u = third_is l k s (cut (after_space (after_space s))) u w

first_is : (l : Language) (k : Kind) (s : List ℕ) → Cut s → three (Some l) (Some k) (words_of s) ≡ settled_left k l s
unfolding three settled_left grammatical_number_of reformed_of next_word after_space
first_is Ukrainian k s (one w f a) = rw (w, a) (sym (no_second (ltb (gender_of (next_word s)) 3) (ltb (case_of []) 6 && true) (ukrainian_left k (ukrainian_named (next_word s) [] []) [])))
first_is French k s (one w f a) = rw (w, a) (sym (no_second (ltb (feminine_of (next_word s)) 2) (ltb (region_of []) 3 && true) (french_left k (french_named (next_word s) [] []) [])))
first_is l k s (more w h) = second_is l k s (cut (after_space s)) w

-- words of no kind or no language ask for nothing
no_kind : (l : Language) (ws : List Word) → three (Some l) None ws ≡ none
unfolding three settled
no_kind l [] = refl
no_kind l (a ∷ []) = refl
no_kind l (a ∷ b ∷ []) = refl
no_kind Ukrainian (a ∷ b ∷ c ∷ ws) = refl
no_kind French (a ∷ b ∷ c ∷ ws) = refl

no_language : (k : OptionOf Kind) (ws : List Word) → three None k ws ≡ none
unfolding three settled
no_language k [] = refl
no_language k (a ∷ []) = refl
no_language k (a ∷ b ∷ []) = refl
no_language k (a ∷ b ∷ c ∷ ws) = refl

no_language_left : (k : OptionOf Kind) (s : List ℕ) → known_left k None s ≡ none
unfolding known_left
no_language_left None s = refl
no_language_left (Some k) s = refl

three_is : (l : OptionOf Language) (k : OptionOf Kind) (s : List ℕ) → three l k (words_of s) ≡ known_left k l s
unfolding known_left
three_is None k s = no_language k (words_of s) ∙ sym (no_language_left k s)
three_is (Some l) None s = no_kind l (words_of s)
three_is (Some l) (Some k) s = first_is l k s (cut s)

-- the whole line
form_three : (a b : Word) (ws : List Word) → form (a ∷ b ∷ ws) ≡ three (language_of b) (kind_of a) ws
unfolding form three
form_three a b [] = refl
form_three a b (c ∷ []) = refl
form_three a b (c ∷ d ∷ []) = refl
form_three a b (c ∷ d ∷ e ∷ ws) = refl

pub form_is : (s : List ℕ) → form (words_of s) ≡ known_left (kind_of (next_word s)) (language_of (next_word (after_space s))) (after_space (after_space s))
unfolding form three divided language_of next_word after_space
form_is s = go (cut s)
  where
    second : (w : Word) (t : List ℕ) → Cut t → form (w ∷ words_of t) ≡ known_left (kind_of w) (language_of (next_word t)) (after_space t)
    second w t (one e f a) = rw (e, a) (three_is (language_of (next_word t)) (kind_of w) [])
    second w t (more e h) = rw e (form_three w (next_word t) (words_of (after_space t)) ∙ three_is (language_of (next_word t)) (kind_of w) (after_space t))

    go : Cut s → form (words_of s) ≡ known_left (kind_of (next_word s)) (language_of (next_word (after_space s))) (after_space (after_space s))
    go (one e f a) = rw (e, a) (sym (no_language_left (kind_of (next_word s)) []))
    go (more e h) = rw e (second (next_word s) (after_space s) (cut (after_space s)))
