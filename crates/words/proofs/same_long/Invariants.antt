-- The loop of `words::same_long`: the bytes before a turn agree.
use Rattle.std.proofs.Common.{◌≡◌, ◌*◌, take}
use Rattle.words.proofs.same_long.Given as goal

abbrev pub invariant-loop-turn : goal.invariant-loop-turn
invariant-loop-turn l = take (l.turn * 8) l.s ≡ take (l.turn * 8) l.w
