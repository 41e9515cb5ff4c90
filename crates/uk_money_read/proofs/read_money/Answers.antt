-- `uk_money_read::read_money` meets its contract: what is made of the bytes is compared with the words that it has.
-- Assumes nothing.
use mathlib.Core.Path.{refl, ◌∙◌}
use native.Mathlib.Omega.{arith}
use Rattle.settings.specs.Chosen.{numbers_of}
use Rattle.settings.proofs.Chosen.{settings_within}
use Rattle.uk_read.proofs.Below.{all_made}
use Rattle.uk_money_read.proofs.Answers.{behind_nouns, found, refused}
use Rattle.uk_money_read.proofs.read_money.Goals as goal

pub of_groups-whole-requires : goal.of_groups-whole-requires
of_groups-whole-requires c =
    let g = c.groups-span.ensures in
    let m = all_made c.args.s.now _ _ _ refl g.out_after.0 g.out_after.1 g.zero_from.0 g.zero_from.1 in
    (omega arith, (omega arith, (m.small, (g.zero_from.1, m.above))))

pub returns-then-is_amount : goal.returns-then-is_amount
returns-then-is_amount c =
    let a = c.args in
    found (numbers_of a.settings) (settings_within a.settings) a.currency.place a.currency.known a.s.now _ (c.is_amount.ensures.holds c.if-is_amount.true)

pub returns-then-is_amount-2 : goal.returns-then-is_amount-2
returns-then-is_amount-2 c =
    let a = c.args in
    found (numbers_of a.settings) (settings_within a.settings) a.currency.place a.currency.known a.s.now _ (c.is_amount-2.ensures.holds c.if-is_amount-2.true)

pub returns : goal.returns
returns c =
    let a = c.args in
    let g = c.groups-span.ensures in
    let m = all_made a.s.now _ _ _ refl g.out_after.0 g.out_after.1 g.zero_from.0 g.zero_from.1 in
    let h = behind_nouns a.s.now c.groups-span.result.bytes c.nouns-m.result c.lowest-hundredths.result g.s_value.0 c.nouns-m.ensures.0 c.lowest-hundredths.ensures in
    refused (numbers_of a.settings) (settings_within a.settings) a.currency.place a.currency.known a.s.now c.of_groups-whole.result.groups _ c.of_group.ensures.0
    (c.of_groups-whole.ensures ∙ m.groups) c.lowest-hundredths.result h (c.is_amount.ensures.fails c.if-is_amount.false) (rw c.from.ensures at (c.is_amount-2.ensures.fails c.if-is_amount-2.false))
