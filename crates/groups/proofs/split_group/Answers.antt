-- `groups::split_group` meets its contract: the last three digits are the lowest group, and fewer than three are the number's only one.
use Rattle.std.proofs.Common.{◌∙◌}
use Rattle.figures.proofs.Laws.Digits.{digits_take}
use Rattle.groups.proofs.Triples.{last_digits, last_group, last_rest}
use Rattle.groups.proofs.split_group.Goals as goal

pub three-requires-in-len3-up : goal.three-requires-in-len3-up
three-requires-in-len3-up c = last_digits c.args.s.now c.requires c.in-len3-up.len_at_least

pub returns-in-len3-up-clause-above : goal.returns-in-len3-up-clause-above
returns-in-len3-up-clause-above c =
    let s = c.args.s.now in
    (digits_take _ s c.requires, last_rest s c.requires c.in-len3-up.len_at_least)

pub returns-in-len3-up-clause-group : goal.returns-in-len3-up-clause-group
returns-in-len3-up-clause-group c =
    c.three-in-len3-up.ensures ∙ last_group c.args.s.now c.requires c.in-len3-up.len_at_least
