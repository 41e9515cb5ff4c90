-- An ordinal's words are the nominative cardinal of one number, if it is not 0, and a last word that says another at an order: their sum is the ordinal's.
-- Assumes nothing.
use Prim.Native.Nat.{ℕ, zero, suc, ◌+◌, ◌-◌, ◌*◌, ◌/◌, ◌%◌, ◌^◌, ◌<◌}
use mathlib.Core.Path.{◌≡◌, refl, sym, ap, ◌∙◌, subst}
use mathlib.Core.Bool.{Bool, true, false, not, cond, ◌&&◌}
use mathlib.Core.List.{List, [], ◌∷◌, ◌++◌, append_assoc, append-nil}
use native.Mathlib.Nat.{pow-succ', one-le-pow, div-one, div-add-mod', div-div-eq-div-mul, mul_assoc, mod-eq_of_lt, mod-lt, mod-one, mul_left_comm}
use native.Mathlib.Omega.{arith}
use native.Mathlib.Decide.{ℕ_discrete}
use borrow.Author.Tests.{eqb-true, eqb-false, eq-eqb, ne_eqb, lt-ltb}
use lib.Arith.{mod-mul, digits_div}
use lib.Dec.{eqb}
use Rattle.base.specs.Join.{Word}
use Rattle.base.specs.Utf8.{utf8, form2}
use Rattle.settings.specs.Settings.{ukrainian_ranges, Within}
use Rattle.settings.specs.Settings.{Settings}
use Rattle.cardinals.specs.Lexicon.{Lexicon}
use Rattle.cardinals.specs.Cardinal.{group_at, group_of, groups_below}
use Rattle.uk.specs.UkTables.{teens_bases}
use Rattle.uk.specs.Apostrophes.{by_apostrophe1}
use Rattle.uk.specs.Rules.{DigitWords, opt, num_words}
use Rattle.uk.specs.Ukrainian.{unit_form, ukrainian_digits, ukrainian_group, ukrainian}
use Rattle.uk_ordinal.specs.OrdinalTables.{ordinal_zero_base, ordinal_unit_bases, ordinal_tens_bases, hundred_base}
use Rattle.uk_ordinal.specs.Ordinal.{soft, flexion, school, in_nominative, in_genitive, compound_word, tail_words, hundred_count, plain_words, lowest_words, above, ordinal_at, ordinal_from, ordinal_words}
use Rattle.uk_ordinal_read.proofs.Stems.{Ends, ends_zero, ends_unit, ends_ten, ends_teen, ends_hundred, ends_round, ends_third}
use Rattle.uk_ordinal_read.proofs.LastWords.{ends_compound}

-- a number of three digits more, where there are none at order 0
module _ (L : Lexicon) (n x : ℕ) (whole : n % 1000 ≡ 0) (small : x < 1000) where
  same_above : (k : ℕ) → group_at (suc k) (n + x) ≡ group_at (suc k) n
  same_above k =
      let p = 1000 ^ k in
      let a : (n + x) / 1000 ≡ n / 1000 = omega arith in
      let e : (n + x) / (1000 * p) ≡ n / (1000 * p) = sym (div-div-eq-div-mul (n + x) 1000 p) ∙ ap (λ (i : ℕ). i / p) a ∙ div-div-eq-div-mul n 1000 p in
      rw (pow-succ' 1000 k, e) refl

  pub three_more : (k : ℕ) → groups_below L (suc k) (n + x) ≡ groups_below L (suc k) n ++ group_of L 0 x
  unfolding groups_below
  three_more zero =
      let a : (n + x) / 1 % 1000 ≡ x = omega (arith, div-one (n + x)) in
      let b : n / 1 % 1000 ≡ 0 = omega (arith, div-one n) in
      rw (a, b) (append-nil (group_of L 0 x))
  three_more (suc k) =
      rw (same_above k, three_more k) (sym (append_assoc (group_of L (suc k) (group_at (suc k) n)) (groups_below L (suc k) n) (group_of L 0 x)))

-- the words of a group of hundreds and tens
module _ (S : Settings) where
  abbrev D : DigitWords
  D = ukrainian_digits S

  tens_words_lem : (t : ℕ) → (t ≡ 1 → ⊥) → num_words D 0 t 0 ≡ opt D.ten t
  tens_words_lem zero n = refl
  tens_words_lem (suc zero) n = absurd (n refl)
  tens_words_lem (suc (suc t)) n = refl

  round_words : (h t : ℕ) → (t ≡ 1 → ⊥) → num_words D h t 0 ≡ opt D.hundred h ++ opt D.ten t
  round_words h t n = ap (λ (ws : List Word). opt D.hundred h ++ ws) (tens_words_lem t n)

  pub round_group : (h t : ℕ) → h < 10 → t < 10 → (t ≡ 1 → ⊥) → group_of (ukrainian S) 0 (100 * h + 10 * t) ≡ opt D.hundred h ++ opt D.ten t
  unfolding ukrainian ukrainian_group
  round_group h t a b n = go (100 * h + 10 * t) refl
    where
      go : (x : ℕ) → x ≡ 100 * h + 10 * t → group_of (ukrainian S) 0 x ≡ opt D.hundred h ++ opt D.ten t
      go zero e = let p : h ≡ 0 = omega arith in let q : t ≡ 0 = omega arith in rw (p, q) refl
      go (suc x) e =
          let p : suc x / 100 % 10 ≡ h = omega arith in
          let q : suc x / 10 % 10 ≡ t = omega arith in
          let r : suc x % 10 ≡ 0 = omega arith in
          rw (p, q, r) (append-nil (num_words D h t 0) ∙ round_words h t n)

-- words ws that are a number's cardinal, if it is not 0, and a last word
pub record Parts (S : Settings) (w : Within (ukrainian_ranges S)) (ws : List Word) (n : ℕ) : Type 0 where
  pub front : ℕ
  pub order : ℕ
  pub value : ℕ
  pub last : Word
  pub words : ws ≡ groups_below (ukrainian (in_nominative S)) 22 front ++ (last ∷ [])
  pub sum : front + value * 1000 ^ order ≡ n
  pub room : group_at order front + value < 1000
  pub placed : order < 22
  pub ends : Ends S w last order value

module _ (S : Settings) (w : Within (ukrainian_ranges S)) (is_school : school S ≡ true) (n : ℕ) where
  abbrev L : Lexicon
  L = ukrainian (in_nominative S)

  abbrev ending : Word
  ending = flexion S (soft n)

  -- the ending is hard but for 3 without a 1 before it
  hard_ending : (eqb (n % 10) 3 && not (eqb (n % 100) 13)) ≡ false → ending ≡ flexion S false
  hard_ending e = rw e refl

  -- at order 0
  module _ (g : ℕ) (is : n % 1000 ≡ g) (some : g ≡ 0 → ⊥) where
    plain_parts : (h t v : ℕ) (last : Word) → h < 10 → t < 10 → (t ≡ 1 → ⊥) → 100 * h + 10 * t + v ≡ g
        → Ends S w last 0 v → Parts S w (groups_below L 22 (n / 1000 * 1000) ++ (opt (ukrainian_digits (in_nominative S)).hundred h ++ (opt (ukrainian_digits (in_nominative S)).ten t ++ (last ∷ [])))) n
    plain_parts h t v last a b c e m =
        let A = n / 1000 * 1000 in
        let x = 100 * h + 10 * t in
        let z : A % 1000 ≡ 0 = omega arith in
        let H = opt (ukrainian_digits (in_nominative S)).hundred h in
        let T = opt (ukrainian_digits (in_nominative S)).ten t in
        let q : groups_below L 22 A ++ (H ++ (T ++ (last ∷ []))) ≡ groups_below L 22 (A + x) ++ (last ∷ []) =
        rw (three_more L A x z (omega arith) 21, round_group (in_nominative S) h t a b c)
        (ap (λ (ws : List Word). groups_below L 22 A ++ ws) (sym (append_assoc H T (last ∷ []))) ∙ sym (append_assoc (groups_below L 22 A) (H ++ T) (last ∷ []))) in
        record {
          front = A + x;
          order = 0;
          value = v;
          last = last;
          words = q;
          sum = omega arith;
          room = let r : (A + x) / 1 ≡ A + x = div-one (A + x) in omega arith;
          placed = omega arith;
          ends = m;
        }

    abbrev h : ℕ
    h = g / 100 % 10

    abbrev t : ℕ
    t = g / 10 % 10

    abbrev u : ℕ
    u = g % 10

    last_two : n % 100 ≡ 10 * t + u
    last_two = let a : n % 100 ≡ g % 100 = omega arith in let b : g % 100 ≡ 10 * (g / 10 % 10) + g % 10 = omega arith in a ∙ b

    abbrev Plain : List Word → Type 0
    Plain ws = Parts S w (groups_below L 22 (n / 1000 * 1000) ++ ws) n

    -- a round hundred, with its count
    round_ends : g % 100 ≡ 0 → Ends S w (hundred_count S h ++ (utf8 hundred_base ++ ending)) 0 g
    round_ends e =
        let s : ending ≡ flexion S false = hard_ending (rw (ne_eqb (n % 10) 3 (λ z. omega arith)) refl) in
        go (ℕ_discrete h 1) s
      where
        go : Dec (h ≡ 1) → ending ≡ flexion S false → Ends S w (hundred_count S h ++ (utf8 hundred_base ++ ending)) 0 g
        go (yes o) s = let v : g ≡ 100 = omega arith in rw (is_school, o, s, v) (ends_hundred S w)
        go (no o) s =
            let v : g ≡ 100 * h = omega arith in
            let i = unit_form (in_genitive S) h in
            rw (is_school, lt-ltb 1 h (omega arith), s, ← append_assoc i (utf8 hundred_base) (flexion S false))
            (subst (Ends S w ((i ++ utf8 hundred_base) ++ flexion S false) 0) (sym v) (ends_round S w h (omega arith) (omega arith)))

    -- tens and units
    tail_parts : (g % 100 ≡ 0 → ⊥) → Plain (opt (ukrainian_digits (in_nominative S)).hundred h ++ tail_words S ending t u)
    tail_parts m = go (ℕ_discrete t 1) (ℕ_discrete u 0)
      where
        teen : t ≡ 1 → Ends S w (form2 (by_apostrophe1 teens_bases) S.apostrophe u ++ ending) 0 (10 + u)
        teen e =
            let s : ending ≡ flexion S false = hard_ending (teen_hard (ℕ_discrete u 3)) in
            rw s (ends_teen S w u (omega arith))
          where
            teen_hard : Dec (u ≡ 3) → (eqb (n % 10) 3 && not (eqb (n % 100) 13)) ≡ false
            teen_hard (yes o) = let a : n % 10 ≡ 3 = omega arith in let b : n % 100 ≡ 13 = last_two ∙ (let c : 10 * t + u ≡ 13 = omega arith in c) in rw (a, b) refl
            teen_hard (no o) = rw (ne_eqb (n % 10) 3 (λ z. omega arith)) refl

        ten : (t ≡ 1 → ⊥) → u ≡ 0 → Ends S w (form2 (by_apostrophe1 ordinal_tens_bases) S.apostrophe (t - 1) ++ ending) 0 (10 * t)
        ten d e =
            let s : ending ≡ flexion S false = hard_ending (rw (ne_eqb (n % 10) 3 (λ z. omega arith)) refl) in
            rw s (ends_ten S w t (omega arith) (omega arith))

        unit : (t ≡ 1 → ⊥) → (u ≡ 0 → ⊥) → Ends S w (form2 (by_apostrophe1 ordinal_unit_bases) S.apostrophe (u - 1) ++ ending) 0 u
        unit d e = which (ℕ_discrete u 3)
          where
            which : Dec (u ≡ 3) → Ends S w (form2 (by_apostrophe1 ordinal_unit_bases) S.apostrophe (u - 1) ++ ending) 0 u
            which (yes o) =
                let a : n % 10 ≡ 3 = omega arith in
                let s : ending ≡ flexion S true = rw (a, ne_eqb (n % 100) 13 (λ z. d (let c : 10 * t + u ≡ 13 = sym last_two ∙ z in omega (arith, c)))) refl in
                rw (o, s) (ends_third S w)
            which (no o) =
                let s : ending ≡ flexion S false = hard_ending (rw (ne_eqb (n % 10) 3 (λ z. omega arith)) refl) in
                rw s (ends_unit S w u (omega arith) (omega arith))

        go : Dec (t ≡ 1) → Dec (u ≡ 0) → Plain (opt (ukrainian_digits (in_nominative S)).hundred h ++ tail_words S ending t u)
        go (yes e) d =
            rw (eq-eqb t 1 e) (plain_parts h 0 (10 + u) (form2 (by_apostrophe1 teens_bases) S.apostrophe u ++ ending) (omega arith) (omega arith) (λ z. omega arith) (omega arith) (teen e))
        go (no e) (yes d) =
            rw (ne_eqb t 1 e, eq-eqb u 0 d)
            (plain_parts h 0 (10 * t) (form2 (by_apostrophe1 ordinal_tens_bases) S.apostrophe (t - 1) ++ ending) (omega arith) (omega arith) (λ z. omega arith) (omega arith) (ten e d))
        go (no e) (no d) =
            rw (ne_eqb t 1 e, ne_eqb u 0 d)
            (plain_parts h t u (form2 (by_apostrophe1 ordinal_unit_bases) S.apostrophe (u - 1) ++ ending) (omega arith) (omega arith) e (omega arith) (unit e d))

    plain_words_lem : Plain (plain_words S ending g)
    unfolding plain_words
    plain_words_lem = go (ℕ_discrete (g % 100) 0)
      where
        go : Dec (g % 100 ≡ 0) → Plain (plain_words S ending g)
        go (yes e) =
            rw (eq-eqb (g % 100) 0 e)
            (plain_parts 0 0 g (hundred_count S h ++ (utf8 hundred_base ++ ending)) (omega arith) (omega arith) (λ z. omega arith) (omega arith) (round_ends e))
        go (no e) = rw (ne_eqb (g % 100) 0 e) (tail_parts e)

  -- above order 0
  module _ (k : ℕ) (low : n % 1000 ^ suc k ≡ 0) (some : group_at (suc k) n ≡ 0 → ⊥) (below : suc k < 22) where
    abbrev p : ℕ
    p = 1000 ^ suc k

    abbrev g : ℕ
    g = group_at (suc k) n

    abbrev A : ℕ
    A = above (suc k) n

    positive : 0 < p
    positive = one-le-pow (suc k) 1000 (omega arith)

    parts_sum : A + g * p ≡ n
    parts_sum =
        let e : n % (1000 * p) ≡ g * p + 0 = mod-mul n {m = 1000} {c = p} (omega arith) positive ∙ ap (λ (i : ℕ). g * p + i) low in
        let d : n / (1000 * p) * (1000 * p) + n % (1000 * p) ≡ n = div-add-mod' n (1000 * p) in
        rw (pow-succ' 1000 (suc k)) (omega (arith, e, d))

    none_there : group_at (suc k) A ≡ 0
    none_there =
        let Q = n / (1000 * p) in
        let e : Q * (1000 * p) ≡ Q * 1000 * p + 0 = sym (mul_assoc Q 1000 p) ∙ omega arith in
        let d : Q * (1000 * p) / p ≡ Q * 1000 = ap (λ (i : ℕ). i / p) e ∙ digits_div (Q * 1000) positive in
        rw (pow-succ' 1000 (suc k), d) (omega arith)

    compound_parts : ending ≡ flexion S false → Parts S w (groups_below L 22 A ++ (compound_word S ending A (suc k) g ∷ [])) n
    compound_parts s =
        let l : g < 1000 = mod-lt (n / p) {m = 1000} (omega arith) in
        record {
          front = A;
          order = suc k;
          value = g;
          last = compound_word S ending A (suc k) g;
          words = refl;
          sum = parts_sum;
          room = omega (arith, none_there, l);
          placed = below;
          ends = rw s (ends_compound S w is_school A (suc k) g (omega arith) below (omega (arith, some)) l);
        }

  -- a number whose digits are 0 below an order above 0 does not end in 3
  not_three : (k : ℕ) → n % 1000 ^ suc k ≡ 0 → n % 10 ≡ 3 → ⊥
  not_three k c q =
      let p = 1000 ^ k in
      let d : n / (1000 * p) * (1000 * p) + n % (1000 * p) ≡ n = div-add-mod' n (1000 * p) in
      let e : n % (1000 * p) ≡ 0 = rw (pow-succ' 1000 k) at c in
      let m : n / (1000 * p) * (1000 * p) ≡ 1000 * (n / (1000 * p) * p) = mul_left_comm (n / (1000 * p)) 1000 p in
      omega (arith, d, e, m)

  -- the lowest group that is not 0
  at_parts : (order : ℕ) → order < 22 → n % 1000 ^ order ≡ 0 → (group_at order n ≡ 0 → ⊥) → Parts S w (ordinal_at S ending order n) n
  unfolding ordinal_at lowest_words
  at_parts zero b c d =
      let j : n / 1 % 1000 ≡ n % 1000 = ap (λ (x : ℕ). x % 1000) (div-one n) in
      plain_words_lem (group_at 0 n) (sym j) d
  at_parts (suc k) b c d = compound_parts k c d b (hard_ending (rw (ne_eqb (n % 10) 3 (not_three k c)) refl))

  -- from an order up, below which all digits are 0
  from_parts : (left order : ℕ) → order + left ≡ 22 → n % 1000 ^ order ≡ 0 → n < 1000 ^ 22 → Parts S w (ordinal_from S ending left order n) n
  unfolding ordinal_from groups_below
  from_parts zero order e z l =
      let o : order ≡ 22 = omega arith in
      let m : n ≡ 0 = sym (mod-eq_of_lt l) ∙ (rw o at z) in
      let s : ending ≡ flexion S false = hard_ending (rw m refl) in
      record {
        front = 0;
        order = 0;
        value = 0;
        last = utf8 ordinal_zero_base ++ ending;
        words = refl;
        sum = sym m;
        room = omega arith;
        placed = omega arith;
        ends = rw s (ends_zero S w);
      }
  from_parts (suc left) order e z l = go (eqb (group_at order n) 0) refl (λ q. from_parts left (suc order) (omega arith) q l)
    where
      higher : group_at order n ≡ 0 → n % 1000 ^ suc order ≡ 0
      higher q = rw (pow-succ' 1000 order, mod-mul n {m = 1000} {c = 1000 ^ order} (omega arith) (one-le-pow order 1000 (omega arith)), q, z) (omega arith)

      go : (b : Bool) → eqb (group_at order n) 0 ≡ b → (n % 1000 ^ suc order ≡ 0 → Parts S w (ordinal_from S ending left (suc order) n) n)
          → Parts S w (cond b (ordinal_from S ending left (suc order) n) (ordinal_at S ending order n)) n
      go true q up = up (higher (eqb-true (group_at order n) 0 q))
      go false q up = at_parts order (omega arith) z (eqb-false (group_at order n) 0 q)

-- an ordinal's words, in parts
pub ordinal_parts : (S : Settings) (w : Within (ukrainian_ranges S)) → school S ≡ true → (n : ℕ) → n < 1000 ^ 22 → Parts S w (ordinal_words S n) n
unfolding ordinal_words
ordinal_parts S w is_school n l = from_parts S w is_school n 22 0 (omega arith) (mod-one n) l
