-- What a reading call answers (01, "Phrase grammar and reader"). Every reading call's contract cites these.
-- Assumes nothing.
use Rattle.std.specs.Prelude.{ℕ, ◌≡◌, List}
use Rattle.base.specs.Answer.{no_sentence, Reply, refused, fitted, Answers}
use Rattle.base.specs.declared.Answer.{Answer}

-- what a reading call comes to, before a phrase is looked at: its refusal, 0 for none, and the grammar's relation between a phrase and its value
pub record Reading : Type 1 where
  pub refusal : ℕ
  pub Means : List ℕ → List ℕ → Type 0

-- the reply to the phrase s for the buffer xs: the refusal that comes before the phrase's; or of a sentence its value, fitted to the buffer; or of bytes
-- that are "not a sentence under these settings" 6
pub data Replies (R : Reading) (s xs : List ℕ) : Reply → Type 0 where
  earlier : (R.refusal ≡ 0 → ⊥) → Replies R s xs (refused R.refusal 0)
  sentence : R.refusal ≡ 0 → (t : List ℕ) → R.Means s t → Replies R s xs (fitted xs t)
  otherwise : R.refusal ≡ 0 → ((t : List ℕ) → R.Means s t → ⊥) → Replies R s xs (refused no_sentence 0)

-- the answer r to the phrase s, with the buffer xs left as ys, is such a reply
pub record Reads (R : Reading) (s : List ℕ) (r : Answer) (xs ys : List ℕ) : Type 0 where
  pub reply : Reply
  pub is_reply : Replies R s xs reply
  pub is_answer : Answers r xs ys reply
