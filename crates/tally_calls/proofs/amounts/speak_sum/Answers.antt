-- A number of 64 bits has at most 7 orders.
-- Assumes nothing.
use Rattle.std.proofs.Common.{◌^◌, ◌<◌, lit<, lt_trans, arith}
use Rattle.base.proofs.Replies.{heard}
use Rattle.figures.specs.Groups.{total}
use Rattle.groups.proofs.Highest.{orders_few}
use Rattle.tally_calls.proofs.amounts.speak_sum.Goals as goal

pub plan_money-requires : goal.plan_money-requires
plan_money-requires c =
    let whole = c.of-whole.result in
    let wide : total whole.groups < 2 ^ 64 = rw c.of-whole.ensures (omega arith) in
    let small : total whole.groups < 1000 ^ 7 = lt_trans wide (lit< tt) in
    (orders_few whole.groups whole.orders 7 whole.small whole.highest (omega arith) small, c.requires)

pub returns : goal.returns
returns c = heard _ _ _ (rw c.codes.ensures (rw c.of-whole.ensures at c.plan_money.ensures.1)) c.speak.ensures.answers
