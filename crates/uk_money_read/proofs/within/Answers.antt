-- `uk_money_read::within` meets its contract: by the seven lowest groups.
-- Assumes nothing.
use mathlib.Core.Path.{sym, ◌∙◌}
use Rattle.tables.proofs.Tests.{clash_of}
use Rattle.uk_money_read.proofs.Limit.{above, by_high, by_middle, by_low}
use Rattle.uk_money_read.proofs.within.Goals as goal

pub returns-then-number-gt-LIMIT_ORDERS : goal.returns-then-number-gt-LIMIT_ORDERS
returns-then-number-gt-LIMIT_ORDERS c = (above c.args.number.now c.if-number-gt-LIMIT_ORDERS.true, λ e. clash_of e)

pub returns-then-high-ne-LIMIT_HIGH : goal.returns-then-high-ne-LIMIT_HIGH
returns-then-high-ne-LIMIT_HIGH c =
    let f = c.if-number-gt-LIMIT_ORDERS.false in
    (by_high c.args.number.now f c.if-high-ne-LIMIT_HIGH.true, λ e. f)

pub returns-then-middle-ne-LIMIT_MIDDLE : goal.returns-then-middle-ne-LIMIT_MIDDLE
returns-then-middle-ne-LIMIT_MIDDLE c =
    let f = c.if-number-gt-LIMIT_ORDERS.false in
    let e = c.nine-middle.ensures in
    (rw e (by_middle c.args.number.now f c.if-high-ne-LIMIT_HIGH.false (λ q. c.if-middle-ne-LIMIT_MIDDLE.true (e ∙ q))), λ e. f)

pub returns : goal.returns
returns c =
    let f = c.if-number-gt-LIMIT_ORDERS.false in
    (rw c.nine.ensures (by_low c.args.number.now f c.if-high-ne-LIMIT_HIGH.false (sym c.nine-middle.ensures ∙ c.if-middle-ne-LIMIT_MIDDLE.false)), λ e. f)
