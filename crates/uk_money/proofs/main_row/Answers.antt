use Rattle.uk_money.proofs.Names.{main_rows}
use Rattle.uk_money.proofs.main_row.Goals as goal

pub returns : goal.returns
returns c = main_rows _ c.args.currency.known
