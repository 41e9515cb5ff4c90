-- No word of an amount is empty: one computed test over the forms of the names of all currencies.
-- Assumes nothing.
use Prim.Native.Nat.{ℕ, zero, suc, ◌/◌, ◌%◌, ◌<◌}
use mathlib.Core.Path.{◌≡◌, refl}
use mathlib.Core.Bool.{Bool, true, false, ◌&&◌}
use mathlib.Core.List.{List, [], ◌∷◌}
use mathlib.Core.Option.{some}
use native.Mathlib.Omega.{arith}
use borrow.Author.Tests.{ltb-true}
use lib.Dec.{ltb}
use lib.ListN.{length}
use Rattle.tables.proofs.Tests.{both_hold, and_left, and_right, all, all_at}
use Rattle.base.specs.Join.{Word}
use Rattle.base.specs.Signs.{space}
use Rattle.base.specs.Utf8.{form2}
use Rattle.base.proofs.Words.{solid?, tested, Solid, Solids, SomeSolid, some_append, joined_solid}
use Rattle.settings.specs.Settings.{ukrainian_ranges, Within, in_gender, Settings}
use Rattle.cardinals.specs.Cardinal.{cardinal_words}
use Rattle.cardinals.proofs.Words.{words_solid}
use Rattle.uk.specs.Ukrainian.{agreed, ukrainian}
use Rattle.uk.proofs.Laws.{gendered, agrees}
use Rattle.uk.proofs.Words.{ukrainian_solid}
use Rattle.uk_money.specs.NounTables.{noun2st_group_hard_declensions, noun2st_group_soft_declensions, noun1st_group_soft_declensions_vowel, noun1st_group_hard_declensions, adjective_hard_masculine, hryvnias, kopiykas}
use Rattle.uk_money.specs.Nouns.{Name, endings, form_of, name_forms, agreed_name}
use Rattle.uk_money.specs.Currencies.{Currency, currencies}
use Rattle.uk_money.specs.Codes.{currency_of}
use Rattle.uk_money.specs.Money.{count_words, amount_words, amount_phrase}
use Rattle.uk_money.specs.Rows.{currency_at, code_place}
use Rattle.uk_money.proofs.Coded.{coded}
use Rattle.uk_money.proofs.Names.{main_gender, fraction_gender}
use Rattle.uk_money.proofs.Placed.{forms_at, form_place, form_place_lem, forms_at_lem}

-- some words, all of them solid
abbrev solids? : List Word → Bool
solids? [] = true
solids? (w ∷ ws) = solid? false w && solids? ws

solids_are : (ws : List Word) → solids? ws ≡ true → Solids ws
solids_are [] e = tt
solids_are (w ∷ ws) e = let p = both_hold (solid? false w) (solids? ws) e in (tested p.0, solids_are ws p.1)

some_are : (ws : List Word) → (ltb 0 (length ws) && solids? ws) ≡ true → SomeSolid ws
some_are ws e = let p = both_hold (ltb 0 (length ws)) (solids? ws) e in (ltb-true 0 (length ws) p.0, solids_are ws p.1)

-- the forms of both names of every currency
form? : Name → ℕ → Bool
unfolding forms_at name_forms form_of endings form2 noun2st_group_hard_declensions noun2st_group_soft_declensions noun1st_group_soft_declensions_vowel noun1st_group_hard_declensions adjective_hard_masculine hryvnias kopiykas
form? name p = ltb 0 (length (forms_at name p)) && solids? (forms_at name p)

abbrev both? : Currency → ℕ → Bool
both? c p = form? c.main p && form? c.fraction p

forms : all 0 44 (λ i. all 0 12 (both? (currency_at i))) ≡ true
unfolding form? currencies
forms = refl

-- a name of a gender, all of whose forms are solid
record SolidName (name : Name) : Type 0 where
  gender : name.gender < 3
  form : (p : ℕ) → p < 12 → form? name p ≡ true

module _ (i : ℕ) (h : i < 44) where
  at : (p : ℕ) → p < 12 → both? (currency_at i) p ≡ true
  at p l = all_at 0 12 (both? (currency_at i)) (all_at 0 44 (λ i. all 0 12 (both? (currency_at i))) forms i (omega arith) h) p (omega arith) l

  main_name : SolidName (currency_at i).main
  main_name = record { gender = main_gender i h; form = λ p l. and_left (form? (currency_at i).main p) (form? (currency_at i).fraction p) (at p l) }

  fraction_name : SolidName (currency_at i).fraction
  fraction_name = record { gender = fraction_gender i h; form = λ p l. and_right (form? (currency_at i).main p) (form? (currency_at i).fraction p) (at p l) }

-- names, counts and amounts
name_solid : (S : Settings) → Within (ukrainian_ranges S) → {name : Name} → SolidName name → SomeSolid (name_forms S name)
unfolding form?
name_solid S w {name} N = rw (forms_at_lem S w name) (some_are (forms_at name (form_place S)) (N.form (form_place S) (form_place_lem S w)))

module _ (S : Settings) (w : Within (ukrainian_ranges S)) where
  count_solid : {name : Name} → SolidName name → (n : ℕ) → SomeSolid (count_words S name n)
  unfolding count_words agreed_name
  count_solid {name} N n =
      some_append (cardinal_words (ukrainian (in_gender name.gender S)) false n) (agreed_name S name n)
      (words_solid (ukrainian_solid (in_gender name.gender S) (gendered name.gender S N.gender w)) false n)
      (name_solid (agreed (n / 10 % 10) (n % 10) S) (agrees (n / 10 % 10) (n % 10) S w) N)

  amount_solid : (i : ℕ) → i < 44 → (n h : ℕ) → SomeSolid (amount_words S (currency_at i) n h)
  unfolding amount_words
  amount_solid i l n zero = count_solid (main_name i l) n
  amount_solid i l zero (suc h) = count_solid (fraction_name i l) (suc h)
  amount_solid i l (suc n) (suc h) =
      some_append (count_words S (currency_at i).main (suc n)) (count_words S (currency_at i).fraction (suc h)) (count_solid (main_name i l) (suc n)).1 (count_solid (fraction_name i l) (suc h))

  pub money_solid : (code : List ℕ) (c : Currency) → currency_of code ≡ some c → (n h : ℕ) → Solid (amount_phrase S c n h)
  unfolding amount_phrase
  money_solid code c e n h = let p = coded code c e in rw (← p.1) (joined_solid space (amount_words S (currency_at (code_place code)) n h) (amount_solid (code_place code) p.0 n h))
