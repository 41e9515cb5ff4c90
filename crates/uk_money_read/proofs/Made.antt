-- What the reader makes of an amount's words is its whole part and its hundredths; so no bytes are two amounts.
-- Assumes nothing.
use Prim.Native.Nat.{ℕ, ◌/◌, ◌%◌, ◌<◌}
use mathlib.Core.Path.{◌≡◌, refl, sym, ◌∙◌, ap}
use mathlib.Core.Bool.{Bool, true, false}
use mathlib.Core.List.{List, [], ◌∷◌, ◌++◌, append-nil, append_assoc}
use native.Mathlib.Omega.{arith}
use borrow.Author.Tests.{eqb-true}
use lib.Dec.{eqb}
use lib.ListN.{get_or}
use Rattle.base.specs.Join.{Word, joined}
use Rattle.figures.specs.Groups.{total}
use Rattle.tokens.specs.Tokens.{split}
use Rattle.tokens.proofs.Words.{Separable, split_joined}
use Rattle.settings.specs.Settings.{ukrainian_ranges, Within, in_gender}
use Rattle.settings.specs.Settings.{Settings}
use Rattle.cardinals.specs.Grammar.{Sentence, nought, unmarked, marked}
use Rattle.uk.specs.Ukrainian.{ukrainian, agreed}
use Rattle.uk.proofs.Laws.{gendered, agrees}
use Rattle.uk_read.specs.Reading.{mean, taken, sums, left}
use Rattle.uk_read.proofs.Known.{Lawful, lawful}
use Rattle.uk_read.proofs.Taking.{closed, Stops, stops, closes}
use Rattle.uk_read.proofs.Falls.{reads_falling}
use Rattle.uk_read.proofs.Below.{zeros, one_below}
use Rattle.uk_read.proofs.Sentences.{both_separable, separable}
use Rattle.uk_money.specs.Nouns.{Name, agreed_name}
use Rattle.uk_money.specs.Currencies.{Currency}
use Rattle.uk_money.specs.Rows.{currency_at}
use Rattle.uk_money.specs.MoneyGrammar.{Counted, counted, Amount, wholly, partly, both, SaysMoney}
use Rattle.uk_money.proofs.Names.{main_gender, fraction_gender}
use Rattle.uk_money.proofs.Apart.{no_form_in_common}
use Rattle.uk_money_read.specs.Behind.{behind}
use Rattle.uk_money_read.proofs.Quiet.{Named, main_named, fraction_named, name_stops, name_passed}

-- a lowest group of 0 is read as 0, and no more is read
lowest_zero : (v : ℕ) (ws : List Word) → v ≡ 0 → total (sums 0 ws ++ (v ∷ zeros 21)) ≡ 0
unfolding sums
lowest_zero v ws e = rw e refl

left_all : (ws : List Word) → left 0 ws ≡ ws
unfolding left
left_all ws = refl

read_zero : (ws r : List Word) → taken 0 ws ≡ closed 0 0 r → (total (sums 22 ws) ≡ 0) × (left 22 ws ≡ r)
read_zero ws r t =
    let p = one_below ws 0 21 (ap (λ t. t.order) t) in
    (ap total p.0 ∙ lowest_zero (taken 0 ws).value (taken 0 ws).rest (ap (λ t. t.value) t), p.1 ∙ left_all (taken 0 ws).rest ∙ ap (λ t. t.rest) t)

-- a cardinal before words that stop it
module _ (S : Settings) (L : Lawful S) where
  sentence_reads : {ws : List Word} {b : Bool} {n : ℕ} → Sentence (ukrainian S) ws b n → b ≡ false → (tail : List Word) → Stops tail
      → (total (sums 22 (ws ++ tail)) ≡ n) × (left 22 (ws ++ tail) ≡ tail)
  unfolding ukrainian
  sentence_reads nought e tail s = read_zero ((ukrainian S).zero_word ∷ tail) tail (closes 0 0 (ukrainian S).zero_word tail L.zeroth.means)
  sentence_reads (unmarked f p) e tail s = reads_falling S L tail s f (omega arith)
  sentence_reads (marked f p) e tail s = let z : ◌≡◌ {A = ℕ} 0 1 = cc in absurd (omega arith)

-- words that stop a number are read as 0
stops_zero : (ws : List Word) → Stops ws → total (sums 22 ws) ≡ 0
stops_zero ws s = (read_zero ws ws (stops 0 ws s)).0

-- words read as a number above 0 begin with a number word
begins_number : (ws : List Word) → 0 < total (sums 22 ws) → behind ws ≡ ws
unfolding behind
begins_number [] h = refl
begins_number (w ∷ ws) h = go (eqb (mean w) 0) refl
  where
    go : (t : Bool) → eqb (mean w) 0 ≡ t → behind (w ∷ ws) ≡ w ∷ ws
    go true e = absurd (omega (arith, stops_zero (w ∷ ws) (eqb-true (mean w) 0 e)))
    go false e = rw e refl

-- a count of a unit, before other words
module _ (S : Settings) (w : Within (ukrainian_ranges S)) (name : Name) (g : name.gender < 3) where
  counting : Lawful (in_gender name.gender S)
  counting = lawful (in_gender name.gender S) (gendered name.gender S g w)

  count_reads : (tail : List Word) {ws : List Word} {n : ℕ} → Counted S name ws n → Named (agreed_name S name n)
      → (total (sums 22 (ws ++ tail)) ≡ n) × (left 22 (ws ++ tail) ≡ agreed_name S name n ++ tail)
  count_reads tail (counted {ws = ws} {n = n} s) m =
      rw (append_assoc ws (agreed_name S name n) tail)
      (sentence_reads (in_gender name.gender S) counting s refl (agreed_name S name n ++ tail) (name_stops (agreed_name S name n) tail m))

  count_separable : {ws : List Word} {n : ℕ} → Counted S name ws n → Named (agreed_name S name n) → Separable ws
  count_separable (counted {ws = ws} {n = n} s) m =
      both_separable ws (agreed_name S name n) (separable (in_gender name.gender S) counting s) m.separable

-- what is made of words: a whole part and hundredths, in one of three ways
data Made (S : Settings) (c : Currency) (ws : List Word) : ℕ → ℕ → Type 0 where
  as_whole : {n : ℕ} → total (sums 22 ws) ≡ n → left 22 ws ≡ agreed_name S c.main n → behind (left 22 ws) ≡ [] → Made S c ws n 0
  as_hundredths : {h : ℕ} → total (sums 22 ws) ≡ h → h < 100 → left 22 ws ≡ agreed_name S c.fraction h → behind (left 22 ws) ≡ [] → Made S c ws 0 h
  as_both : {n h : ℕ} (us : List Word) → total (sums 22 ws) ≡ n → behind (left 22 ws) ≡ us → total (sums 22 us) ≡ h → 0 < h → h < 100 → Made S c ws n h

-- what the reader tries for a text
pub data Guessed (s : List ℕ) : ℕ → ℕ → Type 0 where
  plainly : {n h : ℕ} → total (sums 22 (split s)) ≡ n → get_or (sums 22 (behind (left 22 (split s)))) 0 0 ≡ h → Guessed s n h
  alone : {h : ℕ} → get_or (sums 22 (split s)) 0 0 ≡ h → Guessed s 0 h

-- groups with a small number: it is the lowest
low : (gs : List ℕ) (v : ℕ) → total gs ≡ v → v < 1000 → get_or gs 0 0 ≡ v
low [] v e h = e
low (x ∷ gs) v e h = omega arith

module _ (S : Settings) (w : Within (ukrainian_ranges S)) (i : ℕ) (hi : i < 44) where
  -- a count at the end
  passed : (nm : List Word) → Named nm → behind nm ≡ []
  unfolding behind
  passed nm m = ap behind (sym (append-nil nm)) ∙ name_passed nm [] m.quiet

  last : (name : Name) → name.gender < 3 → {ws : List Word} {n : ℕ} → Counted S name ws n → Named (agreed_name S name n)
      → (total (sums 22 ws) ≡ n) × (left 22 ws ≡ agreed_name S name n)
  last name g {ws} {n} s m =
      let p = count_reads S w name g [] s m in
      (ap (λ (l : List Word). total (sums 22 l)) (sym (append-nil ws)) ∙ p.0, ap (left 22) (sym (append-nil ws)) ∙ p.1 ∙ append-nil (agreed_name S name n))

  made : {ws : List Word} {n h : ℕ} → Amount S (currency_at i) ws n h → Made S (currency_at i) ws n h
  made (wholly {n = n} s l) =
      let m = main_named S w i n hi in
      let p = last (currency_at i).main (main_gender i hi) s m in
      as_whole p.0 p.1 (ap behind p.1 ∙ passed (agreed_name S (currency_at i).main n) m)
  made (partly {h = h} s p k) =
      let m = fraction_named S w i h hi in
      let q = last (currency_at i).fraction (fraction_gender i hi) s m in
      as_hundredths q.0 k q.1 (ap behind q.1 ∙ passed (agreed_name S (currency_at i).fraction h) m)
  made (both {us = us} {ws = ws} {n = n} {h = h} r o l s p k) =
      let m = main_named S w i n hi in
      let a = count_reads S w (currency_at i).main (main_gender i hi) ws r m in
      let b = last (currency_at i).fraction (fraction_gender i hi) s (fraction_named S w i h hi) in
      let t = b.0 in
      as_both ws a.0 (ap behind a.1 ∙ name_passed (agreed_name S (currency_at i).main n) ws m.quiet ∙ begins_number ws (omega arith)) t p k

  amount_separable : {ws : List Word} {n h : ℕ} → Amount S (currency_at i) ws n h → Separable ws
  amount_separable (wholly {n = n} s l) = count_separable S w (currency_at i).main (main_gender i hi) s (main_named S w i n hi)
  amount_separable (partly {h = h} s p k) = count_separable S w (currency_at i).fraction (fraction_gender i hi) s (fraction_named S w i h hi)
  amount_separable (both {us = us} {ws = ws} {n = n} {h = h} r o l s p k) =
      both_separable us ws (count_separable S w (currency_at i).main (main_gender i hi) r (main_named S w i n hi))
      (count_separable S w (currency_at i).fraction (fraction_gender i hi) s (fraction_named S w i h hi))

  -- the two nouns are told apart
  apart : (n h : ℕ) → agreed_name S (currency_at i).main n ≡ agreed_name S (currency_at i).fraction h → ⊥
  unfolding agreed_name
  apart n h e =
      no_form_in_common i (agreed (n / 10 % 10) (n % 10) S) (agreed (h / 10 % 10) (h % 10) S) hi (agrees (n / 10 % 10) (n % 10) S w) (agrees (h / 10 % 10) (h % 10) S w) (ap joined e)

  -- nothing is behind the nouns, or something
  nothing_there : (us : List Word) → us ≡ [] → 0 < total (sums 22 us) → ⊥
  nothing_there us e h = let z : total (sums 22 us) ≡ 0 = rw e (stops_zero [] tt) in omega arith

  once : (ws : List Word) {n h m k : ℕ} → Made S (currency_at i) ws n h → Made S (currency_at i) ws m k → (n ≡ m) × (h ≡ k)
  once ws (as_whole a b e) (as_whole a' b' e') = (sym a ∙ a', refl)
  once ws (as_whole {n = n} a b e) (as_hundredths {h = h} a' l' b' e') = absurd (apart n h (sym b ∙ b'))
  once ws (as_whole a b e) (as_both us a' b' t' p' l') = absurd (nothing_there us (sym b' ∙ e) (omega arith))
  once ws (as_hundredths {h = h} a l b e) (as_whole {n = n} a' b' e') = absurd (apart n h (sym b' ∙ b))
  once ws (as_hundredths a l b e) (as_hundredths a' l' b' e') = (refl, sym a ∙ a')
  once ws (as_hundredths a l b e) (as_both us a' b' t' p' l') = absurd (nothing_there us (sym b' ∙ e) (omega arith))
  once ws (as_both us a b t p l) (as_whole a' b' e') = absurd (nothing_there us (sym b ∙ e') (omega arith))
  once ws (as_both us a b t p l) (as_hundredths a' l' b' e') = absurd (nothing_there us (sym b ∙ e') (omega arith))
  once ws (as_both us a b t p l) (as_both us' a' b' t' p' l') = (sym a ∙ a', sym t ∙ ap (λ (l : List Word). total (sums 22 l)) (sym b ∙ b') ∙ t')

  -- of bytes
  says_made : (s : List ℕ) {n h : ℕ} → SaysMoney S (currency_at i) s n h → Made S (currency_at i) (split s) n h
  says_made s p = rw (p.bytes, split_joined p.words (amount_separable p.derives)) (made p.derives)

  pub says_once : (s : List ℕ) {n h m k : ℕ} → SaysMoney S (currency_at i) s n h → SaysMoney S (currency_at i) s m k → (n ≡ m) × (h ≡ k)
  says_once s p q = once (split s) (says_made s p) (says_made s q)

  -- the whole part and the hundredths that were made of them, or hundredths alone
  pub guessed : (s : List ℕ) {n h : ℕ} → SaysMoney S (currency_at i) s n h → Guessed s n h
  guessed s p = go (says_made s p)
    where
      lowest_behind : (us : List Word) (v : ℕ) → behind (left 22 (split s)) ≡ us → total (sums 22 us) ≡ v → v < 1000 → get_or (sums 22 (behind (left 22 (split s)))) 0 0 ≡ v
      lowest_behind us v q t l = ap (λ (l : List Word). get_or (sums 22 l) 0 0) q ∙ low (sums 22 us) v t l

      go : {n h : ℕ} → Made S (currency_at i) (split s) n h → Guessed s n h
      go (as_whole t m q) = plainly t (lowest_behind [] 0 q (stops_zero [] tt) (omega arith))
      go (as_hundredths {h = h} t l m q) = alone (low (sums 22 (split s)) h t (omega arith))
      go (as_both {h = h} us t q r o l) = plainly t (lowest_behind us h q r (omega arith))
