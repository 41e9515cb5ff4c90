-- What a reading call answers to what was read (01, "Phrase grammar and reader": it "writes the number text", or 6).
-- Assumes nothing.
use Rattle.std.specs.Prelude.{ℕ, List, Option, Some, None}
use Rattle.base.specs.Answer.{no_sentence, Reply, refused, fitted}
use Rattle.figures.specs.Written.{signed_decimal}
use Rattle.figures.specs.Groups.{total}
use Rattle.groups.specs.declared.figure.Figure.{Figure}

-- the text of what was read, with its sign, for the buffer xs, or the refusal
abbrev pub answered : {N : ℕ} → Option (Figure N) → List ℕ → Reply
answered None xs = refused no_sentence 0
answered (Some figure) xs = fitted xs (signed_decimal figure.minus (total figure.number.groups))
