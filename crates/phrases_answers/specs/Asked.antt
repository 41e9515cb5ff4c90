-- What a line asks for, and what its call was told.
-- Assumes nothing.
use Rattle.std.specs.Prelude.{ℕ, ◌≤◌, ◌≡◌, List, Result, Option as OptionOf, Some, None}
use Rattle.std.proofs.Math.Option.{Option, none, some}
use Rattle.base.specs.Answer.{Spelling, replied, Answers}
use Rattle.base.specs.Refused.{answer_of}
use Rattle.base.specs.Room.{phrase_room}
use Rattle.base.specs.declared.Refusal.{Refusal}

-- the call for o was told t, and left the buffer xs as ys
pub record Told (o : Option Spelling) (t : Result ℕ Refusal) (xs ys : List ℕ) : Type 0 where
  pub spelling : Spelling
  pub asked : o ≡ some spelling
  pub answered : Answers (answer_of t) xs ys (replied spelling xs)
  pub short : (answer_of t).length ≤ phrase_room

-- what a line asks for came to r: a line that is no form has no call, and then the buffer stays
abbrev pub Asked : Option Spelling → OptionOf (Result ℕ Refusal) → List ℕ → List ℕ → Type 0
Asked o (Some t) xs ys = Told o t xs ys
Asked o None xs ys = (o ≡ none) × (ys ≡ xs)
