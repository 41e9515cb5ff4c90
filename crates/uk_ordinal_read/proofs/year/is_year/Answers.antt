-- `uk_ordinal_read::year::is_year` meets its contract: by the seven lowest groups.
-- Assumes nothing.
use Rattle.uk_ordinal_read.proofs.Years.{high, above, early_year, no_year, late_year}
use Rattle.uk_ordinal_read.proofs.year.is_year.Goals as goal
use Rattle.uk_ordinal_read.proofs.year.is_year.Goals.{then-number-gt-YEAR_ORDERS-via-then-number-gt-YEAR_ORDERS, then-number-gt-YEAR_ORDERS-via-else-number-gt-YEAR_ORDERS+then-number-gt-HIGHEST}

pub returns-then-number-gt-YEAR_ORDERS : goal.returns-then-number-gt-YEAR_ORDERS
returns-then-number-gt-YEAR_ORDERS c =
    elim c.then-number-gt-YEAR_ORDERS.branch [
      | then-number-gt-YEAR_ORDERS-via-then-number-gt-YEAR_ORDERS w ↦ above c.args.number.now c.args.early w.if-number-gt-YEAR_ORDERS.true
      | then-number-gt-YEAR_ORDERS-via-else-number-gt-YEAR_ORDERS+then-number-gt-HIGHEST w ↦ high c.args.number.now c.args.early w.if-number-gt-HIGHEST.true
    ]

pub returns-then-early : goal.returns-then-early
returns-then-early c = early_year c.args.number.now c.magnitude.result c.args.early c.magnitude.ensures c.if-early.true

pub returns-then-not-is : goal.returns-then-not-is
returns-then-not-is c = late_year c.args.number.now c.is.result c.args.early c.is.ensures c.if-early.false c.magnitude-then-not-is.result c.magnitude-then-not-is.ensures c.if-not-is.true

pub returns-else-not-is : goal.returns-else-not-is
returns-else-not-is c = rw c.if-not-is.false (no_year c.args.number.now c.is.result c.args.early c.is.ensures c.if-early.false c.if-not-is.false)
