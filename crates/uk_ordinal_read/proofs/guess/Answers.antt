-- `uk_ordinal_read::guess` meets its contract: the groups of the words before the last, with what the last one says added.
-- Assumes nothing.
use mathlib.Core.Path.{ap, ◌∙◌}
use native.Mathlib.Omega.{arith}
use lib.ListN.{length}
use Rattle.settings.specs.Chosen.{numbers_of}
use Rattle.uk_ordinal_read.proofs.Adding.{summed}
use Rattle.uk_ordinal_read.proofs.guess.Goals as goal

pub overflow_add-gs : goal.overflow_add-gs
overflow_add-gs c =
    let g = c.groups-span.ensures in
    let p = summed (numbers_of c.args.settings) c.args.s.now _ _ _ _ _ _ _ _ c.last_start-at.ensures c.before-2.ensures g.out_after g.zero_from (c.len-ending.ensures ∙ ap length c.ending.ensures) c.stem.ensures c.last-w.ensures in
    record { fits = omega (arith, p.fits) }

pub of_groups-requires : goal.of_groups-requires
of_groups-requires c =
    let g = c.groups-span.ensures in
    let p = summed (numbers_of c.args.settings) c.args.s.now _ _ _ _ _ _ _ _ c.last_start-at.ensures c.before-2.ensures g.out_after g.zero_from (c.len-ending.ensures ∙ ap length c.ending.ensures) c.stem.ensures c.last-w.ensures in
    (omega arith, (omega arith, (p.small, (omega (arith, p.few, p.placed), p.zeros_from c.max.result (omega arith) (omega arith)))))

pub returns : goal.returns
returns c =
    let g = c.groups-span.ensures in
    let p = summed (numbers_of c.args.settings) c.args.s.now _ _ _ _ _ _ _ _ c.last_start-at.ensures c.before-2.ensures g.out_after g.zero_from (c.len-ending.ensures ∙ ap length c.ending.ensures) c.stem.ensures c.last-w.ensures in
    c.of_groups.ensures ∙ p.guess
