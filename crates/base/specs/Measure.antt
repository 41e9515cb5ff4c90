-- What a measuring call answers (02, W1, "Room before speaking"). Every measuring call's contract cites it.
-- Assumes nothing.
use Rattle.std.specs.Prelude.{ℕ, zero, suc, ◌≤◌, ◌<◌, ◌≡◌, cond, List, [], ◌∷◌, eqb, length, take}
use Rattle.base.specs.Signs.{space}
use Rattle.base.specs.Answer.{no_room, Spelling}
use Rattle.base.specs.declared.Answer.{Answer}
use Rattle.base.specs.declared.Measure.{Measure}
use Rattle.base.specs.declared.Size.{Size}

-- how many of some bytes are spaces
unfoldable pub spaces : List ℕ → ℕ
spaces [] = 0
spaces (b ∷ s) = cond (eqb b space) (suc (spaces s)) (spaces s)

-- a phrase's words and bytes
abbrev pub size_of : List ℕ → Size
size_of phrase = record { words = suc (spaces phrase); length = length phrase }

-- the measure of a phrase: "its count of space-separated words", which is one more than its spaces, and "the phrase's length in bytes"
abbrev pub measure_of : List ℕ → Measure
measure_of phrase = record { refusal = 0; words = suc (spaces phrase); length = length phrase }

-- that of the refusal n: "on a refusal they are 0"; or where n is 0, of the phrase
abbrev pub measure_unless : ℕ → List ℕ → Measure
measure_unless zero phrase = measure_of phrase
measure_unless (suc n) phrase = record { refusal = suc n; words = 0; length = 0 }

-- what is measured of a spelling call, "from the same input, with no output buffer lent"
abbrev pub measured : Spelling → Measure
measured S = measure_unless S.refusal S.phrase

-- what W1 asks of a measure m of some input, where r is the spelling call's answer to that input, for any buffer xs left as ys
pub record Foretells (m : Measure) (r : Answer) (xs ys : List ℕ) : Type 0 where
  -- "Both figures equal those of the phrase that the spelling call writes into a large enough buffer"
  pub if_spelled : m.refusal ≡ 0 → m.length ≤ length xs → (r.number ≡ 0) × (r.length ≡ m.length) × (suc (spaces (take r.length ys)) ≡ m.words)
  -- into a smaller one it writes nothing, and reports that length
  pub if_small : length xs < m.length → (r.number ≡ no_room) × (r.length ≡ m.length) × (ys ≡ xs)
  -- the refusals before 7 "come in their old order", those of the spelling call; "on a refusal they are 0"
  pub if_refused : (m.refusal ≡ 0 → ⊥) → (r.number ≡ m.refusal) × (m.words ≡ 0) × (m.length ≡ 0)
