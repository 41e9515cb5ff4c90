-- How the code takes a line apart, word by word from the front. No answer is defined by it.
-- Assumes nothing.
use Rattle.std.specs.Prelude.{ℕ, cond, ◌&&◌, List, eqb}
use Rattle.std.specs.List.{before_first, after_first}
use Rattle.std.proofs.Math.Option.{Option, none, some}
use Rattle.base.specs.Answer.{Spelling}
use Rattle.base.specs.Join.{Word}
use Rattle.base.specs.Signs.{space}
use Rattle.phrases_forms.specs.Line.{run, inner, closed}

-- the first word of a line, up to its first space
unfoldable pub next_word : List ℕ → Word
next_word s = before_first (λ b. eqb b space) s

-- what stands behind the first space; nothing where there is none
unfoldable pub after_space : List ℕ → List ℕ
after_space s = after_first (λ b. eqb b space) s

-- a text and the bracket that closes the form are left
abbrev pub text_left : (List ℕ → Spelling) → List ℕ → Option Spelling
text_left call s = cond (closed s) (some (call (inner s))) none

-- a code, and a text with the bracket
abbrev pub code_left : (List ℕ → List ℕ → Spelling) → List ℕ → List ℕ → Option Spelling
code_left call code s = cond (run code && closed s) (some (call code (inner s))) none
