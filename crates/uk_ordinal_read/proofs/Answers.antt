-- What the readers of ordinals and years promise in each of their answers.
-- Assumes nothing.
use Prim.Native.Nat.{ℕ, zero, suc, ◌^◌, ◌<◌, ◌≤◌}
use mathlib.Core.Path.{◌≡◌, refl, sym, ◌∙◌, ap}
use mathlib.Core.Bool.{Bool, true, false, not, ◌&&◌, ◌||◌}
use mathlib.Core.List.{List, ◌∷◌, ◌++◌}
use native.Mathlib.Nat.{lt_of_le_of_lt}
use native.Mathlib.Omega.{arith}
use borrow.Author.Tests.{ne_eqb, le-leb, leb-true}
use lib.Dec.{eqb, leb, lit<}
use Rattle.base.specs.Decides.{Decides}
use Rattle.base.specs.Join.{joined}
use Rattle.tables.proofs.Tests.{clash, clash_of, both_hold}
use Rattle.settings.specs.Settings.{masculine, ukrainian_ranges, Within, in_gender}
use Rattle.settings.specs.Settings.{Settings}
use Rattle.figures.specs.Groups.{total}
use Rattle.figures.specs.Year.{year_limit}
use Rattle.figures.proofs.Laws.Groups.{total_lt}
use Rattle.groups.specs.declared.number.Number.{Number}
use Rattle.groups.specs.Read.{read_of, ReadOf}
use Rattle.cardinals.proofs.Guessed.{read_found, read_none}
use Rattle.uk_ordinal.specs.Ordinal.{school, ordinal_words}
use Rattle.uk_ordinal.specs.Year.{era_words, year_noun, year_words}
use Rattle.uk_ordinal_read.specs.Guess.{ordinal_groups, ordinal_number, seems_early, year_ordinal}
use Rattle.uk_ordinal_read.specs.Promise.{SaysOrdinal, is_year, signed_year, SaysYear}
use Rattle.uk_ordinal_read.proofs.Guessed.{ordinal_guessed, year_guessed}

-- the number that was made of bytes as an ordinal, compared with them
module _ (S : Settings) (w : Within (ukrainian_ranges S)) (e : school S ≡ true) (s : List ℕ) (number : Number 22) (m : number.groups ≡ ordinal_groups S s) where
  ordinal_stands : joined (ordinal_words S (total number.groups)) ≡ s → SaysOrdinal S s false (total number.groups)
  ordinal_stands q = record { unsigned = refl; held = rw number.size at (total_lt number.groups number.small); spelled = q }

  ordinal_fails : (joined (ordinal_words S (total number.groups)) ≡ s → ⊥) → (k : Bool) (n : ℕ) → SaysOrdinal S s k n → ⊥
  ordinal_fails f k n p =
      let t : total number.groups ≡ n = ap total m ∙ ap (ordinal_number S) (sym p.spelled) ∙ ordinal_guessed S w e n p.held in
      f (ap (λ (i : ℕ). joined (ordinal_words S i)) t ∙ p.spelled)

  pub ordinal_read : (b : Bool) → Decides b (joined (ordinal_words S (total number.groups)) ≡ s) → ReadOf (SaysOrdinal S s) (read_of b false number)
  ordinal_read true d = read_found (SaysOrdinal S s) (record { minus = false; number = number }) (ordinal_stands (d.holds refl))
  ordinal_read false d = read_none (SaysOrdinal S s) (ordinal_fails (d.fails refl))

-- the words of a year by its sign and its magnitude
module _ (S : Settings) where
  abbrev pub phrase : Bool → ℕ → List ℕ
  phrase early n = joined (ordinal_words (in_gender masculine S) n ++ (year_noun S ∷ era_words early))

  pub year_phrase : (minus : Bool) (n : ℕ) → joined (year_words S (signed_year minus n)) ≡ phrase (minus || eqb n 0) n
  unfolding year_words
  year_phrase true zero = refl
  year_phrase true (suc n) = refl
  year_phrase false zero = refl
  year_phrase false (suc n) = rw (ne_eqb (suc n) 0 (λ e. omega arith)) refl

  -- the phrase of a year is said of it; and what is said of a year is its phrase
  says_year : (s : List ℕ) (early : Bool) (n : ℕ) → is_year early n ≡ true → phrase early n ≡ s → SaysYear S s (early && not (eqb n 0)) n
  unfolding is_year
  says_year s true zero y q = record { zero_plain = λ e. refl; held = omega arith; spelled = year_phrase false zero ∙ q }
  says_year s false zero y q = clash_of (both_hold (leb zero (year_limit false)) false y).1
  says_year s true (suc n) y q =
      rw (ne_eqb (suc n) 0 (λ e. omega arith))
      (record { zero_plain = λ e. absurd (omega arith); held = leb-true (suc n) (year_limit true) (both_hold (leb (suc n) (year_limit true)) true y).0; spelled = year_phrase true (suc n) ∙ q })
  says_year s false (suc n) y q =
      record {
        zero_plain = λ e. absurd (omega arith);
        held = leb-true (suc n) (year_limit false) (both_hold (leb (suc n) (year_limit false)) (not (eqb (suc n) 0)) y).0;
        spelled = year_phrase false (suc n) ∙ rw (ne_eqb (suc n) 0 (λ e. omega arith)) q;
      }

  -- a year's magnitude has at most 22 groups
  pub year_small : (minus : Bool) (n : ℕ) → n ≤ year_limit minus → n < 1000 ^ 22
  year_small true n h = lt_of_le_of_lt h (lit< tt)
  year_small false n h = lt_of_le_of_lt h (lit< tt)

  said_year : {s : List ℕ} (minus : Bool) (n : ℕ) → SaysYear S s minus n → (is_year (minus || eqb n 0) n ≡ true) × (n < 1000 ^ 22)
  unfolding is_year
  said_year true zero p = clash (p.zero_plain refl)
  said_year true (suc n) p = (rw (le-leb (suc n) (year_limit true) p.held) refl, year_small true (suc n) p.held)
  said_year false zero p = (refl, year_small false zero p.held)
  said_year false (suc n) p = (rw (ne_eqb (suc n) 0 (λ e. omega arith), le-leb (suc n) (year_limit false) p.held) refl, year_small false (suc n) p.held)

-- the number that was made of bytes as a year's magnitude, compared with them
module _ (S : Settings) (w : Within (ukrainian_ranges S)) (e : school S ≡ true) (s : List ℕ) (early : Bool) (d : early ≡ seems_early s)
    (number : Number 22) (m : number.groups ≡ ordinal_groups (in_gender masculine S) (year_ordinal S early s)) where
  -- what the code tests
  abbrev pub Tested : Type 0
  Tested = (is_year early (total number.groups) ≡ true) × (phrase S early (total number.groups) ≡ s)

  year_fails : (Tested → ⊥) → (k : Bool) (n : ℕ) → SaysYear S s k n → ⊥
  year_fails f k n p =
      let o : Bool = k || eqb n 0 in
      let q : phrase S o n ≡ s = sym (year_phrase S k n) ∙ p.spelled in
      let y = said_year S k n p in
      let g = rw q at (year_guessed S w e o n y.1) in
      let a : early ≡ o = d ∙ g.0 in
      let t : total number.groups ≡ n = ap total m ∙ ap (λ (c : Bool). ordinal_number (in_gender masculine S) (year_ordinal S c s)) a ∙ g.1 in
      f (rw (a, t) y.0, rw (a, t) q)

  year_read : (b : Bool) → Decides b Tested → ReadOf (SaysYear S s) (read_of b early number)
  year_read true t = let p = t.holds refl in read_found (SaysYear S s) (record { minus = early && not (eqb (total number.groups) 0); number = number }) (says_year S s early (total number.groups) p.0 p.1)
  year_read false t = read_none (SaysYear S s) (year_fails (t.fails refl))

  -- no year has this magnitude; or one has it, and its phrase is told from the bytes
  pub no_year : is_year early (total number.groups) ≡ false → ReadOf (SaysYear S s) (read_of false early number)
  no_year y = year_read false (record { holds = λ t. clash_of t; fails = λ t p. clash (sym p.0 ∙ y) })

  pub as_year : (b : Bool) → is_year early (total number.groups) ≡ true → Decides b (phrase S early (total number.groups) ≡ s) → ReadOf (SaysYear S s) (read_of b early number)
  as_year b y t = year_read b (record { holds = λ h. (y, t.holds h); fails = λ h p. t.fails h p.1 })
