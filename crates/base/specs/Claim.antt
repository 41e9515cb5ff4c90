-- Demand 3 (README), for any kind that is spelled and read.
-- Assumes nothing.
use Rattle.std.specs.Prelude.{ℕ, ◌≤◌, ◌<◌, ◌≡◌, ◌⊎◌, List, length}
use Rattle.base.specs.Answer.{no_sentence, no_room, Spelling, refused, bytes, fitted, replied, Answers}
use Rattle.base.specs.Reading.{Reading, Reads}
use Rattle.base.specs.declared.Answer.{Answer}

-- the reading call answered with the text t: the number 0, t's length, and t from the buffer's first byte on
abbrev pub GivesText : Answer → List ℕ → List ℕ → List ℕ → Type 0
GivesText r xs ys t = Answers r xs ys (bytes t)

-- the bytes s are a sentence with the value t, and t fits into the buffer xs
abbrev pub Fits : Reading → List ℕ → List ℕ → List ℕ → Type 0
Fits from s xs t = from.Means s t × (length t ≤ length xs)

-- they are one whose value t does not fit, and the answer is 7 with t's length
abbrev pub GivesNoRoom : Reading → List ℕ → Answer → List ℕ → List ℕ → Type 0
GivesNoRoom from s r xs ys = (t : List ℕ) × from.Means s t × (length xs < length t) × Answers r xs ys (refused no_room (length t))

-- they are none, and the answer is 6
abbrev pub GivesNoSentence : Reading → List ℕ → Answer → List ℕ → List ℕ → Type 0
GivesNoSentence from s r xs ys = ((t : List ℕ) → from.Means s t → ⊥) × Answers r xs ys (refused no_sentence 0)

-- of one kind: the texts that it admits, what its spelling call comes to for a text, and what its reading call comes to. Of the reading call only its
-- contract is known: r is any answer to any bytes s, for a buffer xs left as ys, that `Reads` allows
pub record Inverse (IsAdmitted : List ℕ → Type 0) (to : List ℕ → Spelling) (from : Reading) : Type 0 where
  -- "Reading answers with a text exactly when the bytes are a sentence [..], and the text fits; the text is the sentence's value"
  pub if_answered : {s xs ys : List ℕ} {r : Answer} → Reads from s r xs ys → r.number ≡ 0 → (t : List ℕ) × Fits from s xs t × GivesText r xs ys t
  pub answers_if : {s xs ys : List ℕ} {r : Answer} → Reads from s r xs ys → (t : List ℕ) → Fits from s xs t → GivesText r xs ys t
  -- otherwise it gives 7 with the length of the sentence's text, or 6 where there is no sentence
  pub otherwise_gives : {s xs ys : List ℕ} {r : Answer} → Reads from s r xs ys → (r.number ≡ 0 → ⊥) → GivesNoRoom from s r xs ys ⊎ GivesNoSentence from s r xs ys
  -- "the same settings spell it as those very bytes", in every buffer zs that holds them
  pub spelled_as : (s t : List ℕ) → from.Means s t → IsAdmitted t × ((zs : List ℕ) → length s ≤ length zs → replied (to t) zs ≡ bytes s)
  -- "and no other admitted text so"
  pub no_other : (s t u zs : List ℕ) → from.Means s t → replied (to u) zs ≡ bytes s → u ≡ t
  -- "every spelled phrase is a sentence with that text as its value"
  pub is_sentence : (s t zs : List ℕ) → replied (to t) zs ≡ bytes s → from.Means s t
  -- and every admitted text is spelled, and its phrase is read as that text
  pub is_spelled : (t : List ℕ) → IsAdmitted t → (to t).refusal ≡ 0
  pub read_as : {xs ys : List ℕ} {r : Answer} (t : List ℕ) → IsAdmitted t → Reads from (to t).phrase r xs ys → Answers r xs ys (fitted xs t)
