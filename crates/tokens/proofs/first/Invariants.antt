-- The loop of `tokens::first`: no gap stands before a turn, and k is what the bytes there add to the key.
use Rattle.std.proofs.Common.{◌*◌, ◌<◌}
use Rattle.tokens.specs.Tokens.{Begun}
use Rattle.tokens.proofs.first.Given as goal

abbrev pub invariant-loop-turn : goal.invariant-loop-turn
invariant-loop-turn l = (l.k < 823685) × Begun l.s (l.turn * 8) l.k
