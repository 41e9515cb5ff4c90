-- Amounts under an apostrophe are those with U+02BC, its sign in place of each: the names of the currencies have none.
-- Assumes nothing.
use Prim.Native.Nat.{ℕ, zero, suc, ◌/◌, ◌%◌, ◌<◌}
use mathlib.Core.Path.{◌≡◌, refl}
use mathlib.Core.Bool.{Bool, true, false, ◌&&◌}
use mathlib.Core.List.{List, [], ◌∷◌, map}
use mathlib.Core.Option.{some}
use Rattle.tables.proofs.Tests.{both_hold}
use Rattle.base.specs.Utf8.{utf8}
use Rattle.base.proofs.Replaced.{none, word, plain?, plain2?, every, every_at, followed, plain, at2, words_append, joined_turns}
use Rattle.settings.specs.Settings.{in_gender, Settings}
use Rattle.cardinals.proofs.Replaced.{words_turn}
use Rattle.uk.specs.Ukrainian.{agreed}
use Rattle.uk.proofs.Apostrophes.{TurnsAt, WordsTurnAt, ukrainian_turns}
use Rattle.uk_money.specs.NounTables.{noun2st_group_hard_declensions, noun2st_group_soft_declensions, noun1st_group_soft_declensions_vowel, noun1st_group_hard_declensions, adjective_hard_masculine, hryvnias, kopiykas}
use Rattle.uk_money.specs.Nouns.{Class, hard2, soft2, vowel1, hard1, adj, undeclined, hryvnia, kopiyka, endings, Declined, form_of, Name, name_forms, agreed_name}
use Rattle.uk_money.specs.Currencies.{Currency, currencies}
use Rattle.uk_money.specs.Codes.{currency_of}
use Rattle.uk_money.specs.Money.{count_words, amount_words, amount_phrase}
use Rattle.uk_money.specs.Rows.{past, code_place}
use Rattle.uk_money.proofs.Coded.{coded}

-- no ending has a sign, and no stem
endings_plain : (class : Class) → plain2? (endings class) ≡ true
unfolding endings noun2st_group_hard_declensions noun2st_group_soft_declensions noun1st_group_soft_declensions_vowel noun1st_group_hard_declensions adjective_hard_masculine hryvnias kopiykas
endings_plain hard2 = refl
endings_plain soft2 = refl
endings_plain vowel1 = refl
endings_plain hard1 = refl
endings_plain adj = refl
endings_plain undeclined = refl
endings_plain hryvnia = refl
endings_plain kopiyka = refl

abbrev stems? : List Declined → Bool
stems? ns = every (λ n. plain? (utf8 n.stem)) ns

abbrev both? : Currency → Bool
both? c = stems? c.main.words && stems? c.fraction.words

stems_plain : every both? currencies ≡ true
unfolding currencies
stems_plain = refl

currency_plain : (code : List ℕ) (c : Currency) → currency_of code ≡ some c → (stems? c.main.words ≡ true) × (stems? c.fraction.words ≡ true)
currency_plain code c e =
    both_hold (stems? c.main.words) (stems? c.fraction.words) (rw (← (coded code c e).1) (every_at both? currencies past stems_plain refl (code_place code)))

module _ (a : ℕ) (h : a < 3) where
  forms_turns : (S : Settings) (ns : List Declined) → stems? ns ≡ true → WordsTurnAt a S (λ S. map (λ n. form_of S n) ns)
  unfolding form_of
  forms_turns S [] e = none
  forms_turns S (n ∷ ns) e =
      let p = both_hold (plain? (utf8 n.stem)) (stems? ns) e in
      word (followed (plain (utf8 n.stem) p.0) (at2 (endings n.class) (endings_plain n.class) S.number S.case)) (forms_turns S ns p.1)

  module _ (S : Settings) where
    count_turns : (name : Name) → stems? name.words ≡ true → (n : ℕ) → WordsTurnAt a S (λ S. count_words S name n)
    unfolding count_words agreed_name name_forms
    count_turns name e n = words_append (words_turn (ukrainian_turns a h (in_gender name.gender S)) false n) (forms_turns (agreed (n / 10 % 10) (n % 10) S) name.words e)

    amount_turns : (c : Currency) → (stems? c.main.words ≡ true) × (stems? c.fraction.words ≡ true) → (n d : ℕ) → WordsTurnAt a S (λ S. amount_words S c n d)
    unfolding amount_words
    amount_turns c e n zero = count_turns c.main e.0 n
    amount_turns c e zero (suc d) = count_turns c.fraction e.1 (suc d)
    amount_turns c e (suc n) (suc d) = words_append (count_turns c.main e.0 (suc n)) (count_turns c.fraction e.1 (suc d))

    pub money_turns : (code : List ℕ) (c : Currency) → currency_of code ≡ some c → (n d : ℕ) → TurnsAt a S (λ S. amount_phrase S c n d)
    unfolding amount_phrase
    money_turns code c e n d = joined_turns (amount_turns c (currency_plain code c e) n d)
