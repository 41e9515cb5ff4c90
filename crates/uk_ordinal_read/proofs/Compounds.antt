-- The count of a compound is taken word by word from its stem: one computed test tells each count word at the front of what follows it.
-- Assumes nothing.
use Prim.Native.Nat.{ℕ, zero, suc, ◌+◌, ◌*◌, ◌/◌, ◌%◌, ◌<◌, ◌≤◌}
use mathlib.Core.Path.{◌≡◌, refl, sym, ap, ◌∙◌}
use mathlib.Core.Bool.{Bool, true, false, not, ◌&&◌, ◌||◌}
use mathlib.Core.List.{List, [], ◌∷◌, ◌++◌, append_assoc, flatten}
use native.Mathlib.Omega.{arith}
use native.Mathlib.Nat.{mod-eq_of_lt}
use borrow.Author.Tests.{eqb-true, ltb-true, not-true, ne_eqb, le-ltb}
use lib.Dec.{eqb, ltb}
use lib.ListN.{length, drop, length-append, get_or-append}
use lib.Seq.{take-append-le, drop-append-le, drop-append_seam}
use Rattle.base.specs.Join.{Word}
use Rattle.base.specs.Utf8.{form1, form2, form3}
use Rattle.tables.proofs.Tests.{clash_of, both_hold, all, all_at}
use Rattle.meanings.specs.Lookup.{lookup}
use Rattle.uk_counts.specs.Counts.{leads, counts, lead_of, entry_of, count_of}
use Rattle.settings.specs.Settings.{ukrainian_settings, ukrainian_ranges, Within}
use Rattle.settings.specs.Settings.{Settings}
use Rattle.uk.specs.UkTables.{gendered, units, teens_bases, teens_flexions, tens, hundreds}
use Rattle.uk.specs.Apostrophes.{by_apostrophe1, by_apostrophe2}
use Rattle.uk.specs.Rules.{DigitWords, opt, low_words, num_words}
use Rattle.uk.specs.Ukrainian.{unit_form, teen_form, ukrainian_digits}
use Rattle.uk_ordinal.specs.OrdinalTables.{one_base}
use Rattle.uk_ordinal.specs.Ordinal.{school, compound_digits}
use Rattle.uk_ordinal_read.specs.LastWord.{spaced, grown}
use Rattle.uk_ordinal_read.proofs.Stems.{spaced_append}
use Rattle.uk_ordinal_read.proofs.CountLaws.{Counts, none, one}

-- x shows a count word at its front, with the entry e
tells? : Word → ℕ → Bool
unfolding lead_of entry_of leads counts lookup
tells? x e = ltb 6 (length x) && (ltb (lead_of x % 16) (length x) && eqb (entry_of x) e)

-- whatever follows x
module _ (x r : Word) (long : 16 ≤ length (x ++ r)) where
  same_lead : 6 < length x → lead_of (x ++ r) ≡ lead_of x
  unfolding lead_of
  same_lead h = rw (take-append-le 7 x r (omega arith)) refl

  same_entry : 6 < length x → lead_of x % 16 < length x → entry_of (x ++ r) ≡ entry_of x
  unfolding entry_of
  same_entry h l = rw (same_lead h, get_or-append x r 0 (lead_of x % 16) l) refl

  told : (e : ℕ) → tells? x e ≡ true → e % 64 ≤ length (x ++ r) → count_of (x ++ r) ≡ e
  unfolding tells? count_of
  told e t h =
      let p = both_hold (ltb 6 (length x)) (ltb (lead_of x % 16) (length x) && eqb (entry_of x) e) t in
      let q = both_hold (ltb (lead_of x % 16) (length x)) (eqb (entry_of x) e) p.1 in
      let s : entry_of (x ++ r) ≡ e = same_entry (ltb-true 6 (length x) p.0) (ltb-true (lead_of x % 16) (length x) q.0) ∙ eqb-true (entry_of x) e q.1 in
      rw (s, le-ltb (length (x ++ r)) 16 long, le-ltb (length (x ++ r)) (e % 64) h) refl

-- what stands behind a count word: so many bytes, and a letter first
abbrev pub letter? : ℕ → Bool
letter? b = eqb b 208 || eqb b 209

abbrev pub lettered? : Word → Bool
lettered? [] = false
lettered? (b ∷ x) = letter? b

pub record Follows (r : Word) : Type 0 where
  pub long : 12 ≤ length r
  pub lettered : lettered? r ≡ true

follows_after : (x r : Word) → lettered? x ≡ true → Follows r → Follows (x ++ r)
follows_after [] r e f = clash_of e
follows_after (b ∷ x) r e f = record { long = omega (arith, length-append (b ∷ x) r, f.long); lettered = e }

-- a count word of seven bytes or more that counts v
word? : Word → ℕ → Bool
word? x v = tells? x (v * 64 + length x) && (ltb (length x) 64 && (lettered? x && not (spaced x)))

record CountWord (x : Word) (v : ℕ) : Type 0 where
  pub tells : tells? x (v * 64 + length x) ≡ true
  pub small : length x < 64
  pub begins : lettered? x ≡ true
  pub unspaced : spaced x ≡ false

count_word : (x : Word) (v : ℕ) → word? x v ≡ true → CountWord x v
unfolding word?
count_word x v t =
    let p = both_hold (tells? x (v * 64 + length x)) (ltb (length x) 64 && (lettered? x && not (spaced x))) t in
    let q = both_hold (ltb (length x) 64) (lettered? x && not (spaced x)) p.1 in
    let o = both_hold (lettered? x) (not (spaced x)) q.1 in
    record { tells = p.0; small = ltb-true (length x) 64 q.0; begins = o.0; unspaced = not-true (spaced x) o.1 }

-- what it makes of a count
word_more : (k value v : ℕ) (x r : Word) {result : ℕ} {rest : List ℕ} → CountWord x v → Follows r → 0 < v → value + v < 1000 → Counts k (value + v) r result rest → Counts (suc k) value (x ++ r) result rest
unfolding tells?
word_more k value v x r w f p l c =
    let long = ltb-true 6 (length x) (both_hold (ltb 6 (length x)) _ w.tells).0 in
    let len = length-append x r in
    let d : (v * 64 + length x) / 64 ≡ v = omega (arith, w.small) in
    let m : (v * 64 + length x) % 64 ≡ length x = omega (arith, w.small) in
    let g : grown value v ≡ value + v = rw (ne_eqb v 1000 (λ z. omega arith)) (mod-eq_of_lt l) in
    one k value (v * 64 + length x) (x ++ r) (told x r (omega (arith, len, long, f.long)) (v * 64 + length x) w.tells (omega (arith, m, len))) (omega arith)
    (rw (d, m, g, drop-append_seam x r) c)

-- one of six bytes, with either letter behind it
short? : Word → ℕ → Bool
short? y v = eqb (length y) 6 && (tells? (y ++ (208 ∷ [])) (v * 64 + 6) && tells? (y ++ (209 ∷ [])) (v * 64 + 6))

short_count : (y r : Word) (v : ℕ) → short? y v ≡ true → Follows r → count_of (y ++ r) ≡ v * 64 + 6
unfolding short?
short_count y [] v t f = clash_of f.lettered
short_count y (b ∷ r) v t f =
    let p = both_hold (eqb (length y) 6) (tells? (y ++ (208 ∷ [])) (v * 64 + 6) && tells? (y ++ (209 ∷ [])) (v * 64 + 6)) t in
    let q = both_hold (tells? (y ++ (208 ∷ [])) (v * 64 + 6)) (tells? (y ++ (209 ∷ [])) (v * 64 + 6)) p.1 in
    go (eqb b 208) refl q.0 q.1 (eqb-true (length y) 6 p.0)
  where
    seen : (c : ℕ) → b ≡ c → tells? (y ++ (c ∷ [])) (v * 64 + 6) ≡ true → length y ≡ 6 → count_of (y ++ (b ∷ r)) ≡ v * 64 + 6
    seen c e t n =
        let s : y ++ (b ∷ r) ≡ (y ++ (c ∷ [])) ++ r = rw e (sym (append_assoc y (c ∷ []) r)) in
        let l : length ((y ++ (c ∷ [])) ++ r) ≡ 6 + length (b ∷ r) = ap length (sym s) ∙ length-append y (b ∷ r) ∙ ap (λ (i : ℕ). i + length (b ∷ r)) n in
        rw s (told (y ++ (c ∷ [])) r (omega (arith, l, f.long)) (v * 64 + 6) t (omega (arith, l, f.long)))

    go : (c : Bool) → eqb b 208 ≡ c → tells? (y ++ (208 ∷ [])) (v * 64 + 6) ≡ true → tells? (y ++ (209 ∷ [])) (v * 64 + 6) ≡ true → length y ≡ 6 → count_of (y ++ (b ∷ r)) ≡ v * 64 + 6
    go true e s t n = seen 208 (eqb-true b 208 e) s n
    go false e s t n = seen 209 (eqb-true b 209 (rw e at f.lettered)) t n

-- сто
short_more : (k v : ℕ) (y r : Word) {result : ℕ} {rest : List ℕ} (value : ℕ) → short? y v ≡ true → Follows r → 0 < v → Counts k (grown value v) r result rest → Counts (suc k) value (y ++ r) result rest
unfolding short?
short_more k v y r value t f p c =
    let n : length y ≡ 6 = eqb-true (length y) 6 (both_hold (eqb (length y) 6) _ t).0 in
    let d : (v * 64 + 6) / 64 ≡ v = omega arith in
    let m : (v * 64 + 6) % 64 ≡ length y = omega (arith, n) in
    one k value (v * 64 + 6) (y ++ r) (short_count y r v t f) (omega arith) (rw (d, m, drop-append_seam y r) c)

-- a unit and сот
hundred? : Word → ℕ → Bool
hundred? x h = tells? x (entry_of x) && (eqb (entry_of x / 64) h && (ltb (entry_of x % 64) (length x) && (short? (drop (entry_of x % 64) x) 1000 && (lettered? x && not (spaced x)))))

record HundredWord (x : Word) (h : ℕ) : Type 0 where
  pub tells : tells? x (entry_of x) ≡ true
  pub counts : entry_of x / 64 ≡ h
  pub some : entry_of x % 64 < length x
  pub short : short? (drop (entry_of x % 64) x) 1000 ≡ true
  pub begins : lettered? x ≡ true
  pub unspaced : spaced x ≡ false

hundred_word : (x : Word) (h : ℕ) → hundred? x h ≡ true → HundredWord x h
unfolding hundred?
hundred_word x h t =
    let e = entry_of x in
    let p = both_hold (tells? x e) (eqb (e / 64) h && (ltb (e % 64) (length x) && (short? (drop (e % 64) x) 1000 && (lettered? x && not (spaced x))))) t in
    let q = both_hold (eqb (e / 64) h) (ltb (e % 64) (length x) && (short? (drop (e % 64) x) 1000 && (lettered? x && not (spaced x)))) p.1 in
    let o = both_hold (ltb (e % 64) (length x)) (short? (drop (e % 64) x) 1000 && (lettered? x && not (spaced x))) q.1 in
    let m = both_hold (short? (drop (e % 64) x) 1000) (lettered? x && not (spaced x)) o.1 in
    let l = both_hold (lettered? x) (not (spaced x)) m.1 in
    record { tells = p.0; counts = eqb-true (e / 64) h q.0; some = ltb-true (e % 64) (length x) o.0; short = m.0; begins = l.0; unspaced = not-true (spaced x) l.1 }

hundred_more : (k h : ℕ) (x r : Word) {result : ℕ} {rest : List ℕ} → HundredWord x h → Follows r → 0 < h → h < 10 → Counts k (100 * h) r result rest → Counts (suc (suc k)) 0 (x ++ r) result rest
unfolding tells?
hundred_more k h x r w f a b c =
    let e = entry_of x in
    let long = ltb-true 6 (length x) (both_hold (ltb 6 (length x)) _ w.tells).0 in
    let len = length-append x r in
    let y = drop (e % 64) x in
    let g : grown 0 h ≡ h = rw (ne_eqb h 1000 (λ z. omega arith)) (omega arith) in
    let m : grown h 1000 ≡ 100 * h = omega arith in
    one (suc k) 0 e (x ++ r) (told x r (omega (arith, len, long, f.long)) e w.tells (omega (arith, len, w.some))) (omega (arith, w.counts, a))
    (rw (w.counts, g, drop-append-le (e % 64) x r (omega (arith, w.some))) (short_more k 1000 y r h w.short f (omega arith) (rw m c)))

-- the words of digits in a compound of school, by the sign
digits : ℕ → DigitWords
digits a = compound_digits (ukrainian_settings 0 0 0 a 1)

hundreds? : ℕ → Bool
hundreds? a = short? ((digits a).hundred 1) 100 && (not (spaced ((digits a).hundred 1)) && (lettered? ((digits a).hundred 1) && all 2 8 (λ h. hundred? ((digits a).hundred h) h)))

tens? : ℕ → Bool
tens? a = all 2 8 (λ t. word? ((digits a).ten t) (10 * t))

teens? : ℕ → Bool
teens? a = all 10 10 (λ v. word? ((digits a).teen v) v)

units? : ℕ → Bool
units? a = all 1 9 (λ u. word? ((digits a).unit u) u)

passes : (all 0 3 hundreds? ≡ true) × (all 0 3 tens? ≡ true) × (all 0 3 teens? ≡ true) × (all 0 3 units? ≡ true)
unfolding hundreds? tens? teens? units? digits hundred? short? word? tells? lead_of entry_of leads counts lookup compound_digits ukrainian_digits unit_form teen_form form1 form2 form3 by_apostrophe1 by_apostrophe2 gendered units teens_bases teens_flexions tens hundreds one_base
passes = (refl, refl, refl, refl)

-- words run together before the rest of a compound: their count, and what is left
record CountRun (k value : ℕ) (x : Word) (result : ℕ) (rest : Word) : Type 0 where
  pub counts : Counts k value (x ++ rest) result rest
  pub follows : Follows (x ++ rest)
  pub unspaced : spaced x ≡ false

-- the rest of a compound: no count word
module _ (S : Settings) (w : Within (ukrainian_ranges S)) (is_school : school S ≡ true) (rest : Word) (f : Follows rest) (end : count_of rest ≡ 0) where
  abbrev D : DigitWords
  D = compound_digits S

  abbrev a : ℕ
  a = S.apostrophe

  sign : a < 3
  sign = w.1.1.1.0

  nothing : (k value : ℕ) → CountRun k value [] value rest
  nothing k value = record { counts = none k value rest end; follows = f; unspaced = refl }

  -- a word, and what follows it
  more : (k value v result : ℕ) (x y : Word) → CountWord x v → 0 < v → value + v < 1000 → CountRun k (value + v) y result rest → CountRun (suc k) value (x ++ y) result rest
  more k value v result x y c p l t = record {
    counts = rw (append_assoc x y rest) (word_more k value v x (y ++ rest) c t.follows p l t.counts);
    follows = rw (append_assoc x y rest) (follows_after x (y ++ rest) c.begins t.follows);
    unspaced = spaced_append x y c.unspaced t.unspaced;
  }

  unit_word_lem : (u : ℕ) → 0 < u → u < 10 → CountWord (D.unit u) u
  unfolding units? digits compound_digits unit_form
  unit_word_lem u p l = count_word (D.unit u) u (all_at 1 9 (λ u. word? ((digits a).unit u) u) (all_at 0 3 units? passes.3 a (omega arith) sign) u p (omega arith))

  teen_word : (v : ℕ) → 9 < v → v < 20 → CountWord (D.teen v) v
  unfolding teens? digits compound_digits ukrainian_digits teen_form
  teen_word v p l = count_word (D.teen v) v (all_at 10 10 (λ v. word? ((digits a).teen v) v) (all_at 0 3 teens? passes.2 a (omega arith) sign) v p (omega arith))

  ten_is : (t : ℕ) → D.ten t ≡ (digits a).ten t
  unfolding digits compound_digits ukrainian_digits
  ten_is t = rw is_school refl

  ten_word_lem : (t : ℕ) → 1 < t → t < 10 → CountWord (D.ten t) (10 * t)
  unfolding tens?
  ten_word_lem t p l = rw (ten_is t) (count_word ((digits a).ten t) (10 * t) (all_at 2 8 (λ t. word? ((digits a).ten t) (10 * t)) (all_at 0 3 tens? passes.1 a (omega arith) sign) t p (omega arith)))

  hundred_is : (h : ℕ) → D.hundred h ≡ (digits a).hundred h
  unfolding digits compound_digits ukrainian_digits
  hundred_is h = rw is_school refl

  -- units, if any; tens and units; and hundreds
  unit_taken : (k value u : ℕ) → u < 10 → value + u < 1000 → CountRun (suc k) value (flatten (opt D.unit u)) (value + u) rest
  unfolding flatten
  unit_taken k value zero l h = let e : value + 0 ≡ value = omega arith in rw e (nothing (suc k) value)
  unit_taken k value (suc u) l h = more k value (suc u) (value + suc u) (D.unit (suc u)) [] (unit_word_lem (suc u) (omega arith) l) (omega arith) h (nothing k (value + suc u))

  low_taken : (k value t u : ℕ) → t < 10 → u < 10 → value + 10 * t + u < 1000 → CountRun (suc (suc k)) value (flatten (low_words D t u)) (value + 10 * t + u) rest
  unfolding flatten
  low_taken k value zero u l m h = let e : value + 10 * 0 + u ≡ value + u = omega arith in rw e (unit_taken (suc k) value u m (omega arith))
  low_taken k value (suc zero) u l m h =
      let e : value + 10 * 1 + u ≡ value + (10 + u) = omega arith in
      rw e (more (suc k) value (10 + u) (value + (10 + u)) (D.teen (10 + u)) [] (teen_word (10 + u) (omega arith) (omega arith)) (omega arith) (omega arith) (nothing (suc k) (value + (10 + u))))
  low_taken k value (suc (suc t)) u l m h =
      more (suc k) value (10 * suc (suc t)) (value + 10 * suc (suc t) + u) (D.ten (suc (suc t))) (flatten (opt D.unit u)) (ten_word_lem (suc (suc t)) (omega arith) l) (omega arith) (omega arith)
      (unit_taken k (value + 10 * suc (suc t)) u m h)

  first_hundred : (y : Word) (result : ℕ) → CountRun 3 100 y result rest → CountRun 4 0 (D.hundred 1 ++ y) result rest
  unfolding hundreds?
  first_hundred y result t =
      let x = (digits a).hundred 1 in
      let p = both_hold (short? x 100) _ (all_at 0 3 hundreds? passes.0 a (omega arith) sign) in
      let q = both_hold (not (spaced x)) _ p.1 in
      let o = both_hold (lettered? x) _ q.1 in
      rw (hundred_is 1) (record {
        counts = rw (append_assoc x y rest) (short_more 3 100 x (y ++ rest) 0 p.0 t.follows (omega arith) t.counts);
        follows = rw (append_assoc x y rest) (follows_after x (y ++ rest) o.0 t.follows);
        unspaced = spaced_append x y (not-true (spaced x) q.0) t.unspaced;
      })

  other_hundred : (h : ℕ) (y : Word) (result : ℕ) → 1 < h → h < 10 → CountRun 2 (100 * h) y result rest → CountRun 4 0 (D.hundred h ++ y) result rest
  unfolding hundreds?
  other_hundred h y result m l t =
      let x = (digits a).hundred h in
      let p = both_hold (short? ((digits a).hundred 1) 100) _ (all_at 0 3 hundreds? passes.0 a (omega arith) sign) in
      let q = both_hold (not (spaced ((digits a).hundred 1))) _ p.1 in
      let o = both_hold (lettered? ((digits a).hundred 1)) _ q.1 in
      let c = hundred_word x h (all_at 2 8 (λ h. hundred? ((digits a).hundred h) h) o.1 h m (omega arith)) in
      rw (hundred_is h) (record {
        counts = rw (append_assoc x y rest) (hundred_more 2 h x (y ++ rest) c t.follows (omega arith) l t.counts);
        follows = rw (append_assoc x y rest) (follows_after x (y ++ rest) c.begins t.follows);
        unspaced = spaced_append x y c.unspaced t.unspaced;
      })

  num_taken : (h t u : ℕ) → h < 10 → t < 10 → u < 10 → CountRun 4 0 (flatten (num_words D h t u)) (100 * h + 10 * t + u) rest
  unfolding flatten
  num_taken zero t u l m n = let e : 100 * 0 + 10 * t + u ≡ 0 + 10 * t + u = omega arith in rw e (low_taken 2 0 t u m n (omega arith))
  num_taken (suc zero) t u l m n = first_hundred (flatten (low_words D t u)) (100 + 10 * t + u) (low_taken 1 100 t u m n (omega arith))
  num_taken (suc (suc h)) t u l m n =
      other_hundred (suc (suc h)) (flatten (low_words D t u)) (100 * suc (suc h) + 10 * t + u) (omega arith) l (low_taken 0 (100 * suc (suc h)) t u m n (omega arith))

  -- the words of a group's digits
  pub num_counts : (h t u : ℕ) → h < 10 → t < 10 → u < 10
      → Counts 4 0 (flatten (num_words (compound_digits S) h t u) ++ rest) (100 * h + 10 * t + u) rest × (spaced (flatten (num_words (compound_digits S) h t u)) ≡ false)
  num_counts h t u l m n = let p = num_taken h t u l m n in (p.counts, p.unspaced)
