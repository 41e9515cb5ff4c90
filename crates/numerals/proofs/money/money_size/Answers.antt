-- `numerals::money::money_size` meets its contract: hundredths are three bytes more.
use Rattle.std.proofs.Common.{arith}
use Rattle.figures.specs.Groups.{total}
use Rattle.figures.proofs.Laws.Text.{text_small}
use Rattle.numerals.proofs.money.money_size.Goals as goal

pub overflow_add-result : goal.overflow_add-result
overflow_add-result c = omega (arith, c.text_size-else-h-eq0.ensures, text_small (total c.args.g.now))
