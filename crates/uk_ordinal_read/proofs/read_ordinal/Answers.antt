-- `uk_ordinal_read::read_ordinal` meets its contract: what is made of the bytes is compared with the phrase that it has.
-- Assumes nothing.
use Rattle.settings.specs.Chosen.{numbers_of}
use Rattle.settings.proofs.Chosen.{settings_within}
use Rattle.uk_ordinal_read.proofs.Answers.{ordinal_read}
use Rattle.uk_ordinal_read.proofs.read_ordinal.Goals as goal

pub returns : goal.returns
returns c =
    let s = c.args.s.now in
    let d = rw (c.codes.ensures, c.plan_ordinal.ensures.1) at c.stands-stands.ensures in
    rw c.read.ensures (ordinal_read (numbers_of c.args.settings) (settings_within c.args.settings) c.requires s c.guess-number.result c.guess-number.ensures c.stands-stands.result d)
