-- In no currency do the main noun and the fraction noun have a form in common, in whatever grammatical numbers and cases (01, "Ukrainian
-- money"): one test over the whole table. Reading rests on it.
-- Assumes nothing.
use Prim.Native.Nat.{ℕ, ◌<◌}
use mathlib.Core.Path.{◌≡◌, refl, sym, ap, ◌∙◌}
use mathlib.Core.Bool.{Bool, true, not}
use native.Mathlib.Omega.{arith}
use borrow.Author.Tests.{not-true}
use Rattle.base.specs.Join.{joined}
use Rattle.base.specs.Utf8.{form2}
use Rattle.base.specs.Same.{same_text}
use Rattle.base.proofs.Same.{same_not}
use Rattle.settings.specs.Settings.{ukrainian_ranges, Within, Settings}
use Rattle.tables.proofs.Tests.{all, all_at}
use Rattle.uk_money.specs.NounTables.{noun2st_group_hard_declensions, noun2st_group_soft_declensions, noun1st_group_soft_declensions_vowel, noun1st_group_hard_declensions, adjective_hard_masculine, hryvnias, kopiykas}
use Rattle.uk_money.specs.Nouns.{endings, form_of, name_forms}
use Rattle.uk_money.specs.Currencies.{currencies}
use Rattle.uk_money.specs.Rows.{currency_at}
use Rattle.uk_money.proofs.Placed.{forms_at, form_place, form_place_lem, forms_at_lem}

differ : ℕ → ℕ → ℕ → Bool
unfolding forms_at name_forms form_of endings form2 noun2st_group_hard_declensions noun2st_group_soft_declensions noun1st_group_soft_declensions_vowel noun1st_group_hard_declensions adjective_hard_masculine hryvnias kopiykas currencies
differ i p q = not (same_text (joined (forms_at (currency_at i).main p)) (joined (forms_at (currency_at i).fraction q)))

all_differ : all 0 44 (λ i. all 0 12 (λ p. all 0 12 (differ i p))) ≡ true
unfolding differ
all_differ = refl

differ_at : (i p q : ℕ) → i < 44 → p < 12 → q < 12 → differ i p q ≡ true
differ_at i p q h a b =
    all_at 0 12 (differ i p) (all_at 0 12 (λ p. all 0 12 (differ i p)) (all_at 0 44 (λ i. all 0 12 (λ p. all 0 12 (differ i p))) all_differ i (omega arith) h) p (omega arith) a) q
    (omega arith) b

pub no_form_in_common : (i : ℕ) (S T : Settings) → i < 44 → Within (ukrainian_ranges S) → Within (ukrainian_ranges T)
    → joined (name_forms S (currency_at i).main) ≡ joined (name_forms T (currency_at i).fraction) → ⊥
unfolding differ
no_form_in_common i S T h v w e =
    same_not (joined (forms_at (currency_at i).main (form_place S))) (joined (forms_at (currency_at i).fraction (form_place T)))
    (not-true _ (differ_at i (form_place S) (form_place T) h (form_place_lem S v) (form_place_lem T w)))
    (ap joined (sym (forms_at_lem S v (currency_at i).main)) ∙ e ∙ ap joined (forms_at_lem T w (currency_at i).fraction))
