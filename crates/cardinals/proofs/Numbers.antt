-- A number's words are a sentence with its value, and a sentence's words are those of its number: in any language. So a number has one sentence.
-- Assumes nothing.
use Prim.Native.Nat.{ℕ, zero, suc, ◌+◌, ◌*◌, ◌/◌, ◌%◌, ◌^◌, ◌<◌}
use mathlib.Core.Path.{◌≡◌, refl, sym, ◌∙◌, ap, subst}
use mathlib.Core.Bool.{Bool, true, false}
use mathlib.Core.List.{List, [], ◌∷◌, ◌++◌}
use native.Mathlib.Nat.{pow-succ', one-le-pow, mod-one, mod-lt, mod-eq_of_lt}
use native.Mathlib.Omega.{arith}
use lib.Arith.{mod-mul, digits_lt, digits_div, digits_mod}
use Rattle.base.specs.Join.{Word, joined_by}
use Rattle.cardinals.specs.Lexicon.{Lexicon}
use Rattle.cardinals.specs.Cardinal.{group_at, group_of, groups_below, sign_words, cardinal_words, cardinal_phrase}
use Rattle.cardinals.specs.Grammar.{Falling, end, skip, group, Sentence, nought, unmarked, marked, Says}

module _ (L : Lexicon) where
  -- one group, and what is below it
  one : (k g : ℕ) {ws : List Word} {n : ℕ} → g < 1000 → Falling L k ws n → Falling L (suc k) (group_of L k g ++ ws) (g * 1000 ^ k + n)
  one k zero {ws} {n} l f = let e : 0 * 1000 ^ k + n ≡ n = omega arith in subst (Falling L (suc k) ws) (sym e) (skip f)
  one k (suc g) {ws} {n} l f = group (suc g) (omega arith) l f

  -- the words of a number's groups fall, with what its orders hold as their value
  groups_fall : (n k : ℕ) → Falling L k (groups_below L k n) (n % 1000 ^ k)
  unfolding groups_below
  groups_fall n zero = subst (Falling L 0 []) (sym (mod-one n)) end
  groups_fall n (suc k) =
      let f = one k (group_at k n) (mod-lt (n / 1000 ^ k) {m = 1000} (omega arith)) (groups_fall n k) in
      let v : group_at k n * 1000 ^ k + n % 1000 ^ k ≡ n % 1000 ^ suc k = sym (rw (pow-succ', mod-mul n {m = 1000} {c = 1000 ^ k} (omega arith) (one-le-pow k 1000 (omega arith))) refl) in
      subst (Falling L (suc k) (group_of L k (group_at k n) ++ groups_below L k n)) v f

  pub falls : (k n : ℕ) → n < 1000 ^ k → Falling L k (groups_below L k n) n
  falls k n h = subst (Falling L k (groups_below L k n)) (mod-eq_of_lt h) (groups_fall n k)

  -- groups of falling order have one value, below a power of 1000, and one list of words
  pub falling_below : {k : ℕ} {ws : List Word} {n : ℕ} → Falling L k ws n → n < 1000 ^ k
  falling_below end = omega arith
  falling_below (skip {k = k} {n = n} f) = let h = falling_below f in rw (pow-succ' 1000 k) (omega arith)
  falling_below (group {k = k} {n = n} g a b f) = rw (pow-succ' 1000 k) (digits_lt b (falling_below f))

  parts : (k g n g' n' : ℕ) → n < 1000 ^ k → n' < 1000 ^ k → g * 1000 ^ k + n ≡ g' * 1000 ^ k + n' → (g ≡ g') × (n ≡ n')
  parts k g n g' n' a b e = (
    sym (digits_div g a) ∙ ap (λ (x : ℕ). x / 1000 ^ k) e ∙ digits_div g' b,
    sym (digits_mod g a) ∙ ap (λ (x : ℕ). x % 1000 ^ k) e ∙ digits_mod g' b,
  )

  none_parts : (k n g' n' : ℕ) → n < 1000 ^ k → n' < 1000 ^ k → n ≡ g' * 1000 ^ k + n' → 0 ≡ g'
  none_parts k n g' n' a b e = (parts k 0 n g' n' a b (let z : 0 * 1000 ^ k + n ≡ n = omega arith in z ∙ e)).0

  one_phrase : {k : ℕ} {us ws : List Word} {m n : ℕ} → Falling L k us m → Falling L k ws n → m ≡ n → us ≡ ws
  one_phrase end end e = refl
  one_phrase (skip f) (skip f') e = one_phrase f f' e
  one_phrase (skip {k = k} {n = m} f) (group {n = n} g a b f') e = absurd (omega (arith, none_parts k m g n (falling_below f) (falling_below f') e))
  one_phrase (group {k = k} {n = m} g a b f) (skip {n = n} f') e =
      absurd (omega (arith, none_parts k n g m (falling_below f') (falling_below f) (sym e)))
  one_phrase (group {k = k} {ws = us} {n = m} g a b f) (group {ws = ws} {n = n} g' a' b' f') e =
      let p = parts k g m g' n (falling_below f) (falling_below f') e in
      rw (p.0, one_phrase f f' p.1)

  pub falling_words : {k : ℕ} {ws : List Word} {n : ℕ} → Falling L k ws n → groups_below L k n ≡ ws
  falling_words {k} {ws} {n} f = one_phrase (falls k n (falling_below f)) f refl

  -- the words of a number that is not 0
  pub cardinal_some : (minus : Bool) (n : ℕ) → (n ≡ 0 → ⊥) → cardinal_words L minus n ≡ sign_words L minus ++ groups_below L L.orders n
  unfolding cardinal_words
  cardinal_some minus zero h = absurd (h refl)
  cardinal_some minus (suc n) h = refl

  -- zero has no sign
  pub cardinal_zero : (minus : Bool) (n : ℕ) → n ≡ 0 → cardinal_words L minus n ≡ L.zero_word ∷ []
  unfolding cardinal_words
  cardinal_zero minus n e = rw e refl

  pub sentence : (minus : Bool) (n : ℕ) → n < 1000 ^ L.orders → (n ≡ 0 → minus ≡ false) → Sentence L (cardinal_words L minus n) minus n
  unfolding cardinal_words
  sentence minus zero h z = rw (z refl) nought
  sentence true (suc n) h z = marked (falls L.orders (suc n) h) (omega arith)
  sentence false (suc n) h z = unmarked (falls L.orders (suc n) h) (omega arith)

  -- a sentence's number is within the orders, its words are those of its number, and only a number above 0 has a sign
  pub spelled : {ws : List Word} {minus : Bool} {n : ℕ} → Sentence L ws minus n
      → (n < 1000 ^ L.orders) × (cardinal_words L minus n ≡ ws) × (minus ≡ true → 0 < n)
  unfolding cardinal_words
  spelled nought = (one-le-pow L.orders 1000 (omega arith), refl, λ e. let z : ◌≡◌ {A = ℕ} 0 1 = cc in absurd (omega arith))
  spelled (unmarked {ws = ws} {n = n} f p) = (falling_below f, cardinal_some false n (λ z. omega arith) ∙ falling_words f, λ e. p)
  spelled (marked {ws = ws} {n = n} f p) =
      (falling_below f, cardinal_some true n (λ z. omega arith) ∙ ap (λ (l : List Word). L.minus_word ∷ l) (falling_words f), λ e. p)

  -- the same of bytes
  pub says : (minus : Bool) (n : ℕ) → n < 1000 ^ L.orders → (n ≡ 0 → minus ≡ false) → Says L (cardinal_phrase L minus n) minus n
  unfolding cardinal_phrase
  says minus n h z = record { words = cardinal_words L minus n; derives = sentence minus n h z; bytes = refl }

  pub said : {s : List ℕ} {minus : Bool} {n : ℕ} → Says L s minus n
      → (n < 1000 ^ L.orders) × (cardinal_phrase L minus n ≡ s) × (minus ≡ true → 0 < n)
  unfolding cardinal_phrase
  said w = let p = spelled w.derives in (p.0, ap (joined_by L.joiner) p.1 ∙ sym w.bytes, p.2)
