-- The sign and the number that are made of any bytes are their value wherever they are a sentence; so the words that these have tell.
-- Assumes nothing.
use Prim.Native.Nat.{ℕ, ◌^◌, ◌<◌}
use mathlib.Core.Path.{◌≡◌, refl, ◌∙◌}
use mathlib.Core.Bool.{Bool}
use mathlib.Core.List.{List}
use Rattle.base.specs.Decides.{Decides}
use Rattle.settings.specs.Settings.{ukrainian_ranges, Within}
use Rattle.settings.specs.Settings.{Settings}
use Rattle.plan.specs.Phrase.{phrase_of}
use Rattle.plan.specs.Plan.{pieces}
use Rattle.tokens.specs.Tokens.{split}
use Rattle.tokens.proofs.Words.{split_joined}
use Rattle.figures.specs.Groups.{total}
use Rattle.groups.specs.declared.number.Number.{Number}
use Rattle.groups.specs.Read.{read_of, ReadOf}
use Rattle.cardinals.specs.Cardinal.{cardinal_phrase}
use Rattle.cardinals.specs.Grammar.{Says}
use Rattle.cardinals.proofs.Guessed as guessed
use Rattle.uk.specs.Ukrainian.{ukrainian}
use Rattle.uk_read.specs.Reading.{sums, signed, after_minus}
use Rattle.uk_read.proofs.Known.{lawful}
use Rattle.uk_read.proofs.Falls.{sums_small}
use Rattle.uk_read.proofs.Sentences.{separable, reads}

-- the sign and the number that are made of bytes
abbrev pub made_sign : List ℕ → Bool
made_sign s = signed (split s)

abbrev pub made_number : List ℕ → ℕ
made_number s = total (sums 22 (after_minus (split s)))

module _ (S : Settings) (w : Within (ukrainian_ranges S)) (s : List ℕ) where
  -- of a sentence
  pub made : (k : Bool) (l : ℕ) → Says (ukrainian S) s k l → (made_sign s ≡ k) × (made_number s ≡ l)
  unfolding ukrainian
  made k l p = rw (p.bytes, split_joined p.words (separable S (lawful S w) p.derives)) (reads S (lawful S w) p.derives)

  -- of any bytes
  pub made_small : made_number s < 1000 ^ (ukrainian S).orders
  unfolding ukrainian
  made_small = sums_small 22 (after_minus (split s))

  -- what the reader promises of a sign m and a number that are those
  pub read : (m : Bool) (number : Number 22) → m ≡ made_sign s → number.groups ≡ sums 22 (after_minus (split s)) → (b : Bool) → Decides b (cardinal_phrase (ukrainian S) m (total number.groups) ≡ s)
      → ReadOf (Says (ukrainian S) s) (read_of b m number)
  read m number em eg b d = rw em (guessed.read (ukrainian S) s (made_sign s) (made_number s) made_small made b number (rw eg refl) (rw (← em, ← eg) d))

-- a plan that says these words stands where they are the text
pub words_stand : (b : Bool) (s pool plan said : List ℕ) → phrase_of (pieces pool plan) ≡ said → Decides b (phrase_of (pieces pool plan) ≡ s) → Decides b (said ≡ s)
words_stand b s pool plan said e d = rw (← e) d
