-- The chain says that each place passes the test.
-- Assumes nothing.
use Rattle.std.proofs.Common.{◌/◌, nat_lt, sym, ◌∙◌, rules, tests}
use Rattle.std.proofs.lemmas.Iterator.{YieldsList-from_slice}
use Rattle.std.proofs.lemmas.Iterator.Search.{all_from_yields_List}
use Rattle.plan.proofs.Front.{all_below}
use Rattle.plan.proofs.below.Goals as goal

pub returns : goal.returns
returns c e =
    let passes = all_from_yields_List (λ code. nat_lt (code / 256) c.args.limit) _ _ c.all.result c.all.ensures.ran (YieldsList-from_slice c.args.plan.now cc) (λ x b q k. search (rules, tests)) in
    all_below c.args.limit c.args.plan.now (sym passes ∙ e)
