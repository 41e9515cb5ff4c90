-- The guess is right wherever the bytes are a sentence; so the readers promise what they do.
-- Assumes nothing.
use Prim.Native.Nat.{ℕ, ◌-◌, ◌^◌, ◌<◌}
use mathlib.Core.Path.{◌≡◌, refl, sym, ap, ◌∙◌, subst}
use mathlib.Core.Bool.{Bool, true, false}
use mathlib.Core.List.{List}
use lib.ListN.{length, take, drop}
use Rattle.base.specs.Decides.{Decides}
use Rattle.settings.specs.Settings.{french_ranges, Within}
use Rattle.settings.specs.Settings.{Settings}
use Rattle.figures.specs.Groups.{total}
use Rattle.groups.specs.declared.number.Number.{Number}
use Rattle.groups.specs.Read.{read_of, ReadOf}
use Rattle.groups.proofs.Highest.{number_below}
use Rattle.cardinals.specs.Cardinal.{cardinal_phrase}
use Rattle.cardinals.specs.Grammar.{Says}
use Rattle.cardinals.proofs.Numbers.{said}
use Rattle.cardinals.proofs.Guessed as guess
use Rattle.std.proofs.lemmas.List.{take_rest}
use Rattle.fr.specs.Rules.{french}
use Rattle.fr.specs.Ordinal.{nth_phrase}
use Rattle.fr.specs.Grammar.{SaysNth}
use Rattle.fr.proofs.Ordinals.{says_nth, said_nth}
use Rattle.fr_read.specs.Reading.{meanings, is_minus, behind_minus, guessed}
use Rattle.fr_read.proofs.Guesses.{guess_cardinal, guess_ordinal}

-- behind the sign
pub behind : (s gs : List ℕ) (k : ℕ) → gs ≡ guessed (meanings (take (length s - k) (drop k s))) → meanings (drop k s) ≡ behind_minus (meanings s) → gs ≡ guessed (behind_minus (meanings s))
behind s gs k e f = e ∙ ap guessed (ap meanings (take_rest s k) ∙ f)

module _ (S : Settings) (v : Within (french_ranges S)) (s : List ℕ) where
  -- cardinals: the guess of a sentence is its sign and its number
  pub found : (k : Bool) (l : ℕ) → Says (french S) s k l → (is_minus (meanings s) ≡ k) × (total (guessed (behind_minus (meanings s))) ≡ l)
  unfolding french
  found k l w =
      let p = said (french S) w in
      rw (← p.1) (guess_cardinal S v k l p.0 p.2)

  module _ (m : Bool) (q : m ≡ is_minus (meanings s)) (number : Number 34) (e : number.groups ≡ guessed (behind_minus (meanings s))) where
    small : total number.groups < 1000 ^ (french S).orders
    unfolding french
    small = number_below number

    right : (k : Bool) (l : ℕ) → Says (french S) s k l → (m ≡ k) × (total number.groups ≡ l)
    right k l w = rw (q, e) (found k l w)

    pub read : (b : Bool) → Decides b (cardinal_phrase (french S) m (total number.groups) ≡ s) → ReadOf (Says (french S) s) (read_of b m number)
    read b d = guess.read (french S) s m (total number.groups) small right b number refl d

  -- ordinals in the same way
  pub found_nth : (k : Bool) (l : ℕ) → SaysNth S s k l → (false ≡ k) × (total (guessed (meanings s)) ≡ l)
  found_nth k l w =
      let p = said_nth S w in
      (sym p.2, rw (← p.1) (guess_ordinal S v l p.0))

  module _ (number : Number 34) (e : number.groups ≡ guessed (meanings s)) where
    right_nth : (k : Bool) (l : ℕ) → SaysNth S s k l → (false ≡ k) × (total number.groups ≡ l)
    right_nth k l w = rw e (found_nth k l w)

    stands_nth : nth_phrase S (total number.groups) ≡ s → SaysNth S s false (total number.groups)
    stands_nth p = subst (λ (t : List ℕ). SaysNth S t false (total number.groups)) p (says_nth S (total number.groups) (number_below number))

    fails_nth : (nth_phrase S (total number.groups) ≡ s → ⊥) → {k : Bool} {l : ℕ} → SaysNth S s k l → ⊥
    fails_nth f {k} {l} w = f (ap (nth_phrase S) (right_nth k l w).1 ∙ (said_nth S w).1)

    pub read_nth : (b : Bool) → Decides b (nth_phrase S (total number.groups) ≡ s) → ReadOf (SaysNth S s) (read_of b false number)
    read_nth true d = guess.read_found (SaysNth S s) (record { minus = false; number = number }) (stands_nth (d.holds refl))
    read_nth false d = guess.read_none (SaysNth S s) (λ k l. fails_nth (d.fails refl))
