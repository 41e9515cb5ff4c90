-- `words::begins` meets its contract.
use Rattle.std.proofs.Common.{sym}
use Rattle.base.proofs.Fronts.{too_short}
use Rattle.words.proofs.begins.Goals as goal

pub returns-then-s-n : goal.returns-then-s-n
returns-then-s-n c = sym (too_short c.args.w.now c.args.s.now c.if-s-n.true)
