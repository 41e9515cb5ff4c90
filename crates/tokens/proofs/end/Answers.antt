-- `tokens::end` meets its contract: the lowest bit of `low` tells the letters before the first gap, and the bytes below it are theirs.
use Rattle.std.proofs.Common.{refl, arith}
use Rattle.std.proofs.lemmas.Grind.{common_steps}
use Rattle.tokens.proofs.Turns.{cut}
use Rattle.tokens.proofs.end.Goals as goal

pub overflow_sub-b : goal.overflow_sub-b
overflow_sub-b c = let h = cut _ _ c.requires.1 c.low-z.ensures in omega arith

pub overflow_add-e : goal.overflow_add-e
overflow_add-e c = let h = cut _ _ c.requires.1 c.low-z.ensures in record { fits = omega arith }

pub overflow_mul-result : goal.overflow_mul-result
overflow_mul-result c = let h = cut _ _ c.requires.1 c.low-z.ensures in record { fits = omega arith }

pub overflow_add-result : goal.overflow_add-result
overflow_add-result c = let h = cut _ _ c.requires.1 c.low-z.ensures in rw h.power (record { fits = omega arith })

pub overflow_add-result-2 : goal.overflow_add-result-2
overflow_add-result-2 c = let h = cut _ _ c.requires.1 c.low-z.ensures in rw h.power (record { fits = omega arith })

pub returns-then-e-n : goal.returns-then-e-n
returns-then-e-n c = let h = cut _ _ c.requires.1 c.low-z.ensures in rw h.power (refl, grind (arith, common_steps))

pub returns-else-e-n : goal.returns-else-e-n
returns-else-e-n c = let h = cut _ _ c.requires.1 c.low-z.ensures in rw h.power (refl, grind (arith, common_steps))
