-- `uk_read::read_cardinal` meets its contract: what is made of the bytes is compared with the phrase that it has.
-- Assumes nothing.
use mathlib.Core.Path.{refl, ◌∙◌}
use native.Mathlib.Omega.{arith}
use Rattle.uk.specs.Pool.{uk_pool}
use Rattle.tokens.specs.Tokens.{split}
use Rattle.settings.specs.Chosen.{numbers_of}
use Rattle.settings.proofs.Chosen.{settings_within}
use Rattle.uk_read.specs.Reading.{after_minus}
use Rattle.uk_read.proofs.Below.{all_read}
use Rattle.uk_read.proofs.Compared.{read, words_stand}
use Rattle.uk_read.proofs.read_cardinal.Goals as goal

pub of_groups-number-requires : goal.of_groups-number-requires
of_groups-number-requires c =
    let g = c.groups-span.ensures in
    let m = all_read c.args.s.now _ c.groups-span.new.out c.unwrap_or-start.result c.groups-span.result.orders (after_minus (split c.args.s.now)) (rw c.unwrap_or-start.ensures c.minus-sign.ensures.passed.0) refl g.out_after.0 g.out_after.1 g.zero_from.0 g.zero_from.1 in
    (omega arith, (omega arith, (m.small, (g.zero_from.1, m.above))))

pub returns : goal.returns
returns c =
    let s = c.args.s.now in
    let number = c.of_groups-number.result in
    let g = c.groups-span.ensures in
    let m = all_read s _ c.groups-span.new.out c.unwrap_or-start.result c.groups-span.result.orders (after_minus (split s)) (rw c.unwrap_or-start.ensures c.minus-sign.ensures.passed.0) refl g.out_after.0 g.out_after.1 g.zero_from.0 g.zero_from.1 in
    let sign = c.is_some.ensures ∙ c.minus-sign.ensures.found in
    let d = words_stand c.stands-stands.result s uk_pool c.plan_cardinal.new.plan _ c.plan_cardinal.ensures.1 (rw c.codes.ensures at c.stands-stands.ensures) in
    rw (c.read.ensures, c.is_some-2.ensures, ← c.is_some.ensures)
    (read (numbers_of c.args.settings) (settings_within c.args.settings) s c.is_some.result number sign (c.of_groups-number.ensures ∙ m.groups) c.stands-stands.result d)
