use Rattle.uk_money.proofs.Names.{fraction_rows}
use Rattle.uk_money.proofs.fraction_row.Goals as goal

pub returns : goal.returns
returns c = fraction_rows _ c.args.currency.known
