-- The last word of an ordinal above order 0: its order and its count are found again.
-- Assumes nothing.
use Prim.Native.Nat.{ℕ, ◌+◌, ◌-◌, ◌*◌, ◌/◌, ◌%◌, ◌<◌}
use mathlib.Core.Path.{◌≡◌, refl, sym, ap, ◌∙◌}
use mathlib.Core.Bool.{Bool, true, false, not, cond, ◌&&◌}
use mathlib.Core.List.{List, [], ◌∷◌, ◌++◌, append_assoc, append-nil, flatten}
use native.Mathlib.Omega.{arith}
use borrow.Author.Tests.{eqb-true, ltb-true, not-true, ne_eqb}
use lib.Dec.{eqb, ltb}
use lib.ListN.{length, length-append}
use lib.Seq.{get_or-append-add}
use Rattle.base.specs.Join.{Word}
use Rattle.base.specs.Utf8.{utf8, form1}
use Rattle.tables.proofs.Tests.{both_hold, all, all_at}
use Rattle.tokens.specs.Tokens.{first_word, full_key, key}
use Rattle.meanings.specs.Lookup.{lookup}
use Rattle.uk_ordinal_meanings.specs.Meanings.{shifts, table, meaning_of}
use Rattle.uk_counts.specs.Counts.{leads, counts, lead_of, entry_of, count_of}
use Rattle.settings.specs.Settings.{ukrainian_ranges, Within}
use Rattle.settings.specs.Settings.{Settings}
use Rattle.uk.specs.UkTables.{mega_bases}
use Rattle.uk.specs.Rules.{num_words}
use Rattle.uk_ordinal.specs.Ordinal.{school, compound_digits, compound_word}
use Rattle.uk_ordinal_read.specs.LastWord.{spaced, stem_means, compound, stem_order, stem_value}
use Rattle.uk_ordinal_read.proofs.Stems.{Ends, hard, spaced_append, without_end, ending_unspaced}
use Rattle.uk_ordinal_read.proofs.CountLaws.{Counts, none}
use Rattle.uk_ordinal_read.proofs.Compounds.{lettered?, Follows, num_counts}

-- what ends a compound's stem: a scale's base and н
scale : ℕ → Word
scale order = form1 mega_bases (order - 1) ++ utf8 "н"

scale? : ℕ → Bool
unfolding scale meaning_of shifts table lookup full_key key first_word leads counts lead_of entry_of count_of form1 mega_bases
scale? k = eqb (stem_means (scale k) % 1000 % 22) k && (eqb (count_of (scale k)) 0 && (ltb 11 (length (scale k)) && (lettered? (scale k) && not (spaced (scale k)))))

scales_pass : all 1 21 scale? ≡ true
unfolding scale? scale meaning_of shifts table lookup full_key key first_word leads counts lead_of entry_of count_of form1 mega_bases
scales_pass = refl

record Scale (k : ℕ) : Type 0 where
  pub means : stem_means (scale k) % 1000 % 22 ≡ k
  pub countless : count_of (scale k) ≡ 0
  pub follows : Follows (scale k)
  pub unspaced : spaced (scale k) ≡ false

scale_known : (k : ℕ) → 0 < k → k < 22 → Scale k
unfolding scale?
scale_known k a b =
    let x = scale k in
    let p = both_hold (eqb (stem_means x % 1000 % 22) k) (eqb (count_of x) 0 && (ltb 11 (length x) && (lettered? x && not (spaced x)))) (all_at 1 21 scale? scales_pass k a (omega arith)) in
    let q = both_hold (eqb (count_of x) 0) (ltb 11 (length x) && (lettered? x && not (spaced x))) p.1 in
    let r = both_hold (ltb 11 (length x)) (lettered? x && not (spaced x)) q.1 in
    let o = both_hold (lettered? x) (not (spaced x)) r.1 in
    record {
      means = eqb-true (stem_means x % 1000 % 22) k p.0;
      countless = eqb-true (count_of x) 0 q.0;
      follows = record { long = let h = ltb-true 11 (length x) r.0 in omega arith; lettered = o.0 };
      unspaced = not-true (spaced x) o.1;
    }

-- a stem that ends in н is a compound's
ends_in_n : (y : Word) (k : ℕ) → compound (y ++ scale k) ≡ true
unfolding scale
ends_in_n y k =
    let b = form1 mega_bases (k - 1) in
    let e : y ++ (b ++ utf8 "н") ≡ (y ++ b) ++ utf8 "н" = sym (append_assoc y b (utf8 "н")) in
    let l : length ((y ++ b) ++ utf8 "н") - 1 ≡ length (y ++ b) + 1 = omega (arith, length-append (y ++ b) (utf8 "н")) in
    rw (e, l, get_or-append-add (y ++ b) (utf8 "н") 1 0) refl

-- the order and the value of a stem of which so many are counted
stem_is : (y : Word) (k g c : ℕ) → 0 < k → k < 22 → Counts 4 0 (y ++ scale k) c (scale k) → cond (eqb c 0) 1 c ≡ g → (stem_order (y ++ scale k) ≡ k) × (stem_value (y ++ scale k) ≡ g)
unfolding stem_order stem_value
stem_is y k g c a b n e =
    (rw (ends_in_n y k, n.leaves) (scale_known k a b).means, rw (ends_in_n y k, n.counts) e)

module _ (S : Settings) (w : Within (ukrainian_ranges S)) (is_school : school S ≡ true) where
  -- the words of a compound, in the parts that the reader takes
  word_parts : (cs : List Word) (k : ℕ) (e : Word) → flatten (cs ++ (form1 mega_bases (k - 1) ∷ utf8 "н" ∷ e ∷ [])) ≡ (flatten cs ++ scale k) ++ e
  unfolding flatten scale
  word_parts [] k e = let b = form1 mega_bases (k - 1) in rw (append-nil e) (sym (append_assoc b (utf8 "н") e))
  word_parts (c ∷ cs) k e =
      ap (λ (l : Word). c ++ l) (word_parts cs k e) ∙ sym (append_assoc c (flatten cs ++ scale k) e) ∙ ap (λ (l : Word). l ++ e) (sym (append_assoc c (flatten cs) (scale k)))

  ends_with : (cs : List Word) (k g c : ℕ) → 0 < k → k < 22 → Counts 4 0 (flatten cs ++ scale k) c (scale k) → spaced (flatten cs) ≡ false → cond (eqb c 0) 1 c ≡ g
      → Ends S w (flatten (cs ++ (form1 mega_bases (k - 1) ∷ utf8 "н" ∷ hard S w ∷ []))) k g
  ends_with cs k g c a b n s e =
      let p = stem_is (flatten cs) k g c a b n e in
      let x = flatten cs ++ scale k in
      rw (word_parts cs k (hard S w), without_end x (hard S w))
      (record { order_is = p.0; value_is = p.1; unspaced = spaced_append x (hard S w) (spaced_append (flatten cs) (scale k) s (scale_known k a b).unspaced) (ending_unspaced S w false) })

  pub ends_compound : (rest k g : ℕ) → 0 < k → k < 22 → 0 < g → g < 1000 → Ends S w (compound_word S (hard S w) rest k g) k g
  unfolding compound_word flatten
  ends_compound rest k g a b p l = go (eqb rest 0 && eqb g 1) refl
    where
      t : Scale k
      t = scale_known k a b

      go : (lone : Bool) → (eqb rest 0 && eqb g 1) ≡ lone
          → Ends S w (flatten (cond lone [] (num_words (compound_digits S) (g / 100 % 10) (g / 10 % 10) (g % 10)) ++ (form1 mega_bases (k - 1) ∷ utf8 "н" ∷ hard S w ∷ []))) k g
      go true e = ends_with [] k g 0 a b (none 4 0 (scale k) t.countless) refl (sym (eqb-true g 1 (both_hold (eqb rest 0) (eqb g 1) e).1))
      go false e =
          let d : 100 * (g / 100 % 10) + 10 * (g / 10 % 10) + g % 10 ≡ g = omega arith in
          let n = num_counts S w is_school (scale k) t.follows t.countless (g / 100 % 10) (g / 10 % 10) (g % 10) (omega arith) (omega arith) (omega arith) in
          ends_with (num_words (compound_digits S) (g / 100 % 10) (g / 10 % 10) (g % 10)) k g g a b (rw d at n.0) n.1 (rw (ne_eqb g 0 (λ z. omega arith)) refl)
