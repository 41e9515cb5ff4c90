-- What demand 3 needs of the kinds whose values are number texts, by their grammars; so of cardinals in any language.
-- Assumes nothing.
use Prim.Native.Nat.{ℕ, ◌*◌, ◌^◌, ◌≤◌, ◌<◌}
use mathlib.Core.Path.{◌≡◌, refl, sym, ◌∙◌}
use mathlib.Core.Bool.{Bool, false, not}
use mathlib.Core.List.{List}
use native.Mathlib.Nat.{lt_of_lt_of_le, pow-le-pow_right}
use native.Mathlib.Omega.{arith}
use lib.Dec.{ltb}
use lib.ListN.{length}
use Rattle.base.proofs.Closing.{Readable}
use Rattle.figures.specs.Text.{value, negative, unsigned, well_formed}
use Rattle.figures.specs.Judging.{judged}
use Rattle.figures.specs.Value.{NumberMeans}
use Rattle.figures.specs.Written.{signed_decimal}
use Rattle.figures.proofs.Laws.Digits.{thousand}
use Rattle.figures.proofs.Laws.Refusals.{passed, none_refused, passed_held}
use Rattle.figures.proofs.Laws.Sign.{zero_plain_lem, number_size, number_is_lem}
use Rattle.cardinals.specs.Lexicon.{Lexicon}
use Rattle.cardinals.specs.Cardinal.{cardinal_phrase}
use Rattle.cardinals.specs.Grammar.{Says}
use Rattle.cardinals.proofs.Numbers.{says, said}

-- a grammar of the numbers below 1000 to the orders, each with one phrase; some signs may be refused
pub record OnePhrase (Says : List ℕ → Bool → ℕ → Type 0) (phrase : Bool → ℕ → List ℕ) (is_refused : Bool → Bool) (orders : ℕ) : Type 0 where
  pub says : (m : Bool) (n : ℕ) → n < 1000 ^ orders → (n ≡ 0 → m ≡ false) → is_refused m ≡ false → Says (phrase m n) m n
  pub small : {s : List ℕ} {m : Bool} {n : ℕ} → Says s m n → n < 1000 ^ orders
  pub phrased : {s : List ℕ} {m : Bool} {n : ℕ} → Says s m n → phrase m n ≡ s
  pub signed : {s : List ℕ} {m : Bool} {n : ℕ} → Says s m n → is_refused m ≡ false

module _ {Says : List ℕ → Bool → ℕ → Type 0} {phrase : Bool → ℕ → List ℕ} {is_refused : Bool → Bool} {orders : ℕ} (G : OnePhrase Says phrase is_refused orders)
    (some : 0 < orders) (few : orders ≤ 34) where
  -- a sentence's number has at most 102 digits
  pub few_digits : {s : List ℕ} {m : Bool} {n : ℕ} → Says s m n → n < 10 ^ 102
  few_digits w = lt_of_lt_of_le (G.small w) (rw (← thousand orders) (pow-le-pow_right {n = 10} (omega arith) {i = orders * 3} {j = 102} (omega arith)))

  abbrev AdmittedText : List ℕ → Type 0
  AdmittedText t = judged (not (well_formed t)) (is_refused (negative t)) (ltb (orders * 3) (length (unsigned t))) ≡ 0

  abbrev text_phrase : List ℕ → List ℕ
  text_phrase t = phrase (negative t) (value (unsigned t))

  spelled_means : (t : List ℕ) → AdmittedText t → NumberMeans (Says (text_phrase t)) t
  spelled_means t a =
      let p = passed (well_formed t) (is_refused (negative t)) (length (unsigned t)) (orders * 3) a in
      let h = passed_held orders t p in
      record {
        minus = negative t;
        magnitude = value (unsigned t);
        says = G.says (negative t) (value (unsigned t)) h (zero_plain_lem t p.formed) p.sign;
        valued = record { formed = p.formed; sign = refl; means = refl };
      }

  means_spelled : (s t : List ℕ) → NumberMeans (Says s) t → AdmittedText t × (text_phrase t ≡ s)
  means_spelled s t m =
      let x = m.valued in
      let f : is_refused (negative t) ≡ false = rw x.sign (G.signed m.says) in
      let l = number_size x (orders * 3) (omega arith) (rw (thousand orders) (G.small m.says)) in
      (none_refused (record { formed = x.formed; sign = f; within = l }), rw (x.means, x.sign) (G.phrased m.says))

  pub readable : (sign : List ℕ → Bool) (number : List ℕ → ℕ) → ((s : List ℕ) (k : Bool) (l : ℕ) → Says s k l → (sign s ≡ k) × (number s ≡ l))
      → Readable (λ (t : List ℕ). judged (not (well_formed t)) (is_refused (negative t)) (ltb (orders * 3) (length (unsigned t))) ≡ 0)
      (λ (t : List ℕ). phrase (negative t) (value (unsigned t))) (λ (s t : List ℕ). NumberMeans (Says s) t)
  readable sign number right = record {
    phrase_means = spelled_means;
    means_phrase = means_spelled;
    one_value = λ s t u p q. guessed s t p ∙ sym (guessed s u q);
  }
    where
      guessed : (s t : List ℕ) → NumberMeans (Says s) t → t ≡ signed_decimal (sign s) (number s)
      guessed s t m = let e = right s m.minus m.magnitude m.says in rw (e.0, e.1) (number_is_lem m.valued (few_digits m.says))

-- cardinals, of which no sign is refused
pub cardinals : (L : Lexicon) → OnePhrase (Says L) (cardinal_phrase L) (λ m. false) L.orders
cardinals L = record {
  says = λ m n h z f. says L m n h z;
  small = λ w. (said L w).0;
  phrased = λ w. (said L w).1;
  signed = λ w. refl;
}
