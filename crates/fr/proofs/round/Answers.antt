use Rattle.fr.proofs.Tables.{round_twenties}
use Rattle.fr.proofs.round.Goals as goal

pub returns-then-four_twenties : goal.returns-then-four_twenties
returns-then-four_twenties c = round_twenties _ _ _ c.if-order-ne1.true (cc)
