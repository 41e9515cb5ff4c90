-- `walker::Walker::next` meets its contract: past the end of the phrase the walker stays.
use Rattle.std.proofs.Common.{sym, ◌∙◌, ltb-false}
use Rattle.walker.proofs.Steps.{stays}
use Rattle.walker.proofs.Walker.next.Goals as goal

pub returns-then-not-peek : goal.returns-then-not-peek
returns-then-not-peek c = stays c.args.self (ltb-false _ _ (sym c.peek.ensures ∙ c.if-not-peek.true))
