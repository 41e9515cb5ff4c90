-- `uk_money_calls::read`: what is read is answered.
-- Assumes nothing.
use Rattle.std.proofs.Common.{refl, arith}
use Rattle.base.proofs.Replies.{refuses}
use Rattle.settings.proofs.Handed.{numbers_within}
use Rattle.uk_money_calls.proofs.Entries.{read_none, read_some}
use Rattle.uk_money_calls.proofs.read.Goals as goal

pub put_money_text-requires : goal.put_money_text-requires
put_money_text-requires c = (omega arith, ((omega arith, omega arith), (c.in-Some.ensures.reads _ refl).1))

pub returns-in-Some : goal.returns-in-Some
returns-in-Some c = read_some _ _ (rw (numbers_within c.args.settings) refl) _ _ _ _ c.in-Some.amount c.in-Some.ensures c.put_money_text.ensures

pub returns-in-None : goal.returns-in-None
returns-in-None c = read_none _ _ (rw (numbers_within c.args.settings) refl) _ _ _ _ c.in-None.ensures (refuses (refl, refl))
