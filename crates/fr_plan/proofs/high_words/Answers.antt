-- `fr_plan::high_words` meets its contract.
-- Assumes nothing.
use mathlib.Core.Path.{sym}
use native.Mathlib.Omega.{arith}
use Rattle.settings.specs.Chosen.{french_numbers_of}
use Rattle.fr_plan.proofs.Appends.{after, likewise, as_word}
use Rattle.fr_plan.proofs.Cases.{counted, round_low, pair_low}
use Rattle.fr_plan.proofs.high_words.Goals as goal

pub returns-then-counts_on : goal.returns-then-counts_on
returns-then-counts_on c =
    let a = c.args in
    likewise 3 (after 3 (as_word c.join.ensures c.ten.ensures.says) c.linked.ensures (omega arith)) (omega arith)
    (rw c.teen.ensures.says (counted (french_numbers_of a.settings) a.order a.t a.u c.requires.0 (sym c.if-counts_on.ensures)))

pub returns-then-u-eq0 : goal.returns-then-u-eq0
returns-then-u-eq0 c =
    let a = c.args in
    likewise 3 (as_word c.join-then-u-eq0.ensures c.round.ensures.says) (omega arith) (round_low (french_numbers_of a.settings) a.order a.t a.u c.requires.0 c.if-u-eq0.true)

pub returns-else-u-eq0 : goal.returns-else-u-eq0
returns-else-u-eq0 c =
    let a = c.args in
    likewise 3 (after 3 (as_word c.join-else-u-eq0.ensures c.ten-else-u-eq0.ensures.says) c.linked-else-u-eq0.ensures (omega arith)) (omega arith)
    (rw c.unit.ensures.says (pair_low (french_numbers_of a.settings) a.order a.t a.u c.requires.0 c.if-u-eq0.false (sym c.if-counts_on.ensures)))
