-- The value of a sentence as a text (01, "Phrase grammar and reader": "A sentence's value is the number text of ..").
-- Assumes nothing.
use Rattle.std.specs.Prelude.{◌≡◌, ℕ, Bool, true, false, List}
use Rattle.figures.specs.Text.{value, negative, unsigned, well_formed}
use Rattle.figures.specs.Money.{money_formed, whole_of, hundredths_of}

-- t is the number text of n, or of -n if minus
pub record IsNumber (minus : Bool) (n : ℕ) (t : List ℕ) : Type 0 where
  pub formed : well_formed t ≡ true
  pub sign : negative t ≡ minus
  pub means : value (unsigned t) ≡ n

-- t is the money text of the whole part n and h hundredths
pub record IsAmount (n h : ℕ) (t : List ℕ) : Type 0 where
  pub formed : money_formed t ≡ true
  pub sign : negative t ≡ false
  pub whole_is : whole_of t ≡ n
  pub hundredths_are : hundredths_of t ≡ h

-- bytes of which the grammar says that they are a sentence with a sign and a number: its value is the number text t
pub record NumberMeans (Says : Bool → ℕ → Type 0) (t : List ℕ) : Type 0 where
  pub minus : Bool
  pub magnitude : ℕ
  pub says : Says minus magnitude
  pub valued : IsNumber minus magnitude t

-- bytes of which it says that they are an amount with a whole part and hundredths: its value is the money text t
pub record AmountMeans (Says : ℕ → ℕ → Type 0) (t : List ℕ) : Type 0 where
  pub whole : ℕ
  pub hundredths : ℕ
  pub says : Says whole hundredths
  pub valued : IsAmount whole hundredths t
