-- `uk_counts::seven` meets its contract.
use Rattle.uk_counts.proofs.Laws.{seven_of}
use Rattle.uk_counts.proofs.seven.Goals as goal

pub returns : goal.returns
returns c = rw c.get8.ensures (seven_of c.args.s.now (λ i. (c.type_inv.s i).fits) c.requires)
