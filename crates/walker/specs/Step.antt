-- What a walker's step is.
-- Assumes nothing.
use Rattle.std.specs.Prelude.{◌+◌}
use Rattle.walker.specs.Walk.{word_at}
use Rattle.walker.specs.declared.Walker.{Walker}
use Rattle.walker.specs.declared.Step.{Step}

-- the key of the word at a walker's place, and the walker behind that word
abbrev pub step_of : Walker → Step
step_of w = record { key = (word_at w.phrase.now w.at).key; rest = record { phrase = w.phrase; at = w.at + (word_at w.phrase.now w.at).next } }
