-- `groups::is` meets its contract: a number of more orders than one is at least 1000, and any other is its lowest group.
use Rattle.std.proofs.Common.{◌∙◌, arith}
use borrow.Author.Tests.{lt-leb}
use Rattle.groups.proofs.Highest.{total_high, total_low}
use Rattle.groups.proofs.is.Goals as goal

pub returns-then-n-le1 : goal.returns-then-n-le1
returns-then-n-le1 c = rw (total_low c.args.gs.now c.args.n c.args.k c.requires.3 (omega arith))

pub returns-else-n-le1 : goal.returns-else-n-le1
returns-else-n-le1 c =
    lt-leb _ _ (omega arith) ∙ total_high c.args.gs.now c.args.n c.args.k c.requires.3 c.requires.1 c.requires.0 (omega arith)
