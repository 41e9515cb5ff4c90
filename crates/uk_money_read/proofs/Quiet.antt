-- No form of a currency noun is a number word, or has a gap in it: one computed test over the forms of all names.
-- Assumes nothing.
use Prim.Native.Nat.{ℕ, ◌/◌, ◌%◌, ◌<◌}
use mathlib.Core.Path.{◌≡◌, refl, sym}
use mathlib.Core.Bool.{Bool, true, false, ◌&&◌}
use mathlib.Core.List.{List, [], ◌∷◌, ◌++◌}
use native.Mathlib.Omega.{arith}
use borrow.Author.Tests.{eqb-true, eq-eqb}
use lib.Dec.{eqb}
use Rattle.base.specs.Join.{Word}
use Rattle.base.specs.Utf8.{form2}
use Rattle.settings.specs.Settings.{ukrainian_ranges, Within}
use Rattle.settings.specs.Settings.{Settings}
use Rattle.tables.proofs.Tests.{and_left, and_right, all, all_at, clash}
use Rattle.tokens.specs.Tokens.{full_key, key}
use Rattle.tokens.proofs.Words.{is_word, Separable}
use Rattle.meanings.specs.Lookup.{lookup}
use Rattle.uk_meanings.specs.Meanings.{shifts, table, meaning_of}
use Rattle.uk_read.specs.Reading.{mean}
use Rattle.uk_read.proofs.Taking.{Stops}
use Rattle.uk_money.specs.NounTables.{noun2st_group_hard_declensions, noun2st_group_soft_declensions, noun1st_group_soft_declensions_vowel, noun1st_group_hard_declensions, adjective_hard_masculine, hryvnias, kopiykas}
use Rattle.uk_money.specs.Nouns.{Name, endings, form_of, name_forms, agreed_name}
use Rattle.uk_money.specs.Currencies.{Currency, currencies}
use Rattle.uk_money.specs.Rows.{currency_at}
use Rattle.uk_money.proofs.Placed.{forms_at, form_place, form_place_lem, forms_at_lem}
use Rattle.uk.specs.Ukrainian.{agreed}
use Rattle.uk.proofs.Laws.{agrees}
use Rattle.uk_money_read.specs.Behind.{behind}

-- words that are no number words
abbrev pub Quiet : List Word → Type 0
Quiet [] = Unit {0}
Quiet (w ∷ ws) = (mean w ≡ 0) × Quiet ws

-- a name in a form: one word or more, none of them a number word, none with a gap
pub record Named (ws : List Word) : Type 0 where
  pub first : Word
  pub others : List Word
  pub words : ws ≡ first ∷ others
  pub quiet : Quiet ws
  pub separable : Separable ws

quiet? : List Word → Bool
unfolding meaning_of shifts table lookup full_key key
quiet? [] = true
quiet? (w ∷ ws) = (eqb (mean w) 0 && is_word w) && quiet? ws

named? : List Word → Bool
named? [] = false
named? (w ∷ ws) = quiet? (w ∷ ws)

quiets : (ws : List Word) → quiet? ws ≡ true → Quiet ws × Separable ws
unfolding quiet?
quiets [] t = (tt, tt)
quiets (w ∷ ws) t =
    let a = and_left (eqb (mean w) 0 && is_word w) (quiet? ws) t in
    let r = quiets ws (and_right (eqb (mean w) 0 && is_word w) (quiet? ws) t) in
    ((eqb-true (mean w) 0 (and_left (eqb (mean w) 0) (is_word w) a), r.0), (and_right (eqb (mean w) 0) (is_word w) a, r.1))

named_is : (ws : List Word) → named? ws ≡ true → Named ws
unfolding named?
named_is [] t = clash (sym t)
named_is (w ∷ ws) t = let q = quiets (w ∷ ws) t in record { first = w; others = ws; words = refl; quiet = q.0; separable = q.1 }

-- the forms of both names of every currency
form? : Name → ℕ → Bool
unfolding named? quiet? forms_at name_forms form_of endings form2 noun2st_group_hard_declensions noun2st_group_soft_declensions noun1st_group_soft_declensions_vowel noun1st_group_hard_declensions adjective_hard_masculine hryvnias kopiykas
form? name p = named? (forms_at name p)

abbrev both? : Currency → ℕ → Bool
both? c p = form? c.main p && form? c.fraction p

forms : all 0 44 (λ i. all 0 12 (both? (currency_at i))) ≡ true
unfolding form? currencies
forms = refl

module _ (i : ℕ) (S : Settings) (h : i < 44) (w : Within (ukrainian_ranges S)) where
  at : both? (currency_at i) (form_place S) ≡ true
  at = all_at 0 12 (both? (currency_at i)) (all_at 0 44 (λ i. all 0 12 (both? (currency_at i))) forms i (omega arith) h) (form_place S) (omega arith) (form_place_lem S w)

  by : (name : Name) → form? name (form_place S) ≡ true → Named (name_forms S name)
  unfolding form?
  by name t = rw (forms_at_lem S w name) (named_is (forms_at name (form_place S)) t)

  main_form : Named (name_forms S (currency_at i).main)
  main_form = by (currency_at i).main (and_left (form? (currency_at i).main (form_place S)) (form? (currency_at i).fraction (form_place S)) at)

  fraction_form : Named (name_forms S (currency_at i).fraction)
  fraction_form = by (currency_at i).fraction (and_right (form? (currency_at i).main (form_place S)) (form? (currency_at i).fraction (form_place S)) at)

-- the names as they agree with a count
module _ (S : Settings) (w : Within (ukrainian_ranges S)) (i n : ℕ) (h : i < 44) where
  pub main_named : Named (agreed_name S (currency_at i).main n)
  unfolding agreed_name
  main_named = main_form i (agreed (n / 10 % 10) (n % 10) S) h (agrees (n / 10 % 10) (n % 10) S w)

  pub fraction_named : Named (agreed_name S (currency_at i).fraction n)
  unfolding agreed_name
  fraction_named = fraction_form i (agreed (n / 10 % 10) (n % 10) S) h (agrees (n / 10 % 10) (n % 10) S w)

-- a name stops a number, and is passed
pub name_stops : (ws tail : List Word) → Named ws → Stops (ws ++ tail)
name_stops ws tail n = let q : Quiet (n.first ∷ n.others) = rw n.words at n.quiet in rw n.words q.0

pub name_passed : (ws tail : List Word) → Quiet ws → behind (ws ++ tail) ≡ behind tail
unfolding behind
name_passed [] tail q = refl
name_passed (w ∷ ws) tail q = rw (eq-eqb (mean w) 0 q.0) (name_passed ws tail q.1)
