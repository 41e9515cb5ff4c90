-- `words::extents::Spaces::before` meets its contract.
use Rattle.std.proofs.Common.{arith, rules, ◌∙◌}
use Rattle.words.proofs.Counts.{none_before, counted_before}
use Rattle.words.proofs.extents.Spaces.before.Goals as goal

pub returns-then-at-self : goal.returns-then-at-self
returns-then-at-self c = ((λ pool k. none_before k _ c.if-at-self.true), omega arith)

pub returns : goal.returns
returns c = ((λ pool k. c.from.ensures ∙ counted_before k c.args.at c.if-at-self.false c.requires), search rules)
