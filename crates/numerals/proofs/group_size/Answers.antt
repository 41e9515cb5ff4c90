-- `numerals::group_size` meets its contract: each answer is the width that holds x and that no fewer do.
use Rattle.std.proofs.Common.{arith}
use Rattle.figures.proofs.Laws.Text.{text_size_is}
use Rattle.numerals.proofs.group_size.Goals as goal

pub returns-in-0-to-9 : goal.returns-in-0-to-9
returns-in-0-to-9 c = text_size_is c.args.x 1 (omega arith) (omega arith) (omega arith) (λ q. absurd (omega arith))

pub returns-in-10-to-99 : goal.returns-in-10-to-99
returns-in-10-to-99 c = text_size_is c.args.x 2 (omega arith) (omega arith) (omega arith) (λ q. omega arith)

pub returns-in_default : goal.returns-in_default
returns-in_default c = text_size_is c.args.x 3 (omega arith) (omega arith) (omega arith) (λ q. omega arith)
