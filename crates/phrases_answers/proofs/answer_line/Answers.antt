-- `phrases_answers::answer_line` meets its contract.
-- Assumes nothing.
use Rattle.std.proofs.Common.{arith}
use Rattle.phrases_answers.proofs.Laws.{told_line, no_line, long_line}
use Rattle.phrases_answers.proofs.answer_line.Goals as goal

pub returns-then-s-gt-LONGEST_LINE-clause-value : goal.returns-then-s-gt-LONGEST_LINE-clause-value
returns-then-s-gt-LONGEST_LINE-clause-value c = long_line c.args.s.now _ _ _ (omega arith) c.bad.ensures

pub returns-in-Some-clause-value : goal.returns-in-Some-clause-value
returns-in-Some-clause-value c = told_line c.args.s.now _ _ _ _ _ (omega arith) c.requires c.in-Some.ensures c.finish.ensures

pub returns-in-None-clause-value : goal.returns-in-None-clause-value
returns-in-None-clause-value c = no_line c.args.s.now _ _ _ _ (omega arith) c.in-None.ensures c.bad-in-None.ensures
