-- A reader's promise and the answer that is written: what a reading call promises.
-- Assumes nothing.
use Prim.Native.Nat.{ℕ, ◌^◌, ◌<◌}
use mathlib.Core.Path.{◌≡◌, refl}
use mathlib.Core.Bool.{Bool, true, false}
use mathlib.Core.List.{List}
use Rattle.tables.proofs.Tests.{clash_of}
use Rattle.base.specs.Answer.{no_sentence, refused, fitted, Answers}
use Rattle.base.specs.Reading.{Reading, sentence, otherwise, Reads}
use Rattle.base.specs.declared.Answer.{Answer}
use Rattle.figures.specs.Value.{NumberMeans}
use Rattle.figures.specs.Written.{signed_decimal}
use Rattle.figures.proofs.Laws.Sign.{number_text}
use Rattle.groups.specs.declared.figure.Figure.{Figure}
use Rattle.groups.specs.Read.{ReadOf}
use Rattle.std.specs.Prelude.{Option, Some, None}
use Rattle.numerals.specs.Reading.{answered}

-- the numbers of sentences are below 10 ^ 102, and only those above 0 have a sign
pub record Bounded (Says : Bool → ℕ → Type 0) : Type 0 where
  pub small : {m : Bool} {n : ℕ} → Says m n → n < 10 ^ 102
  pub some : {n : ℕ} → Says true n → 0 < n

module _ (Says : List ℕ → Bool → ℕ → Type 0) (refusal : ℕ) (valid : refusal ≡ 0) (s xs ys : List ℕ) (r : Answer) (b : Bounded (Says s)) where
  -- what is read by the grammar, as number texts
  abbrev reading : Reading
  reading = record { refusal = refusal; Means = λ (l t : List ℕ). NumberMeans (Says l) t }

  signed : (m : Bool) {n : ℕ} → Says s m n → m ≡ true → 0 < n
  signed true p e = b.some p
  signed false p e = clash_of e

  some : (m : Bool) {n : ℕ} → Says s m n → Answers r xs ys (fitted xs (signed_decimal m n)) → Reads reading s r xs ys
  some m {n} p a = record {
    reply = fitted xs (signed_decimal m n);
    is_reply = sentence valid (signed_decimal m n) (record { minus = m; magnitude = n; says = p; valued = number_text m n (b.small p) (signed m p) });
    is_answer = a;
  }

  pub read_right : {N : ℕ} (read : Option (Figure N)) → ReadOf (Says s) read → Answers r xs ys (answered read xs) → Reads reading s r xs ys
  read_right None p a = record { reply = refused no_sentence 0; is_reply = otherwise valid (λ t m. p.refuses refl m.minus m.magnitude m.says); is_answer = a }
  read_right (Some figure) p a = some figure.minus (p.reads figure refl) a
