-- A phrase's size from its extent.
-- Assumes nothing.
use Rattle.plan.proofs.Measuring.{phrase_extends, no_phrase}
use Rattle.plan.proofs.measure.measure.Goals as goal

pub returns-in-empty : goal.returns-in-empty
returns-in-empty c pool k =
    let extent = no_phrase pool c.args.plan.now c.in-empty.len_below in
    c.size_of.ensures _ extent.spaced extent.sized

pub returns-in-len1-up : goal.returns-in-len1-up
returns-in-len1-up c pool k =
    let extent = phrase_extends pool c.args.plan.now c.in-len1-up.len_at_least (c.extent_at-text.ensures.0 pool k) (c.following_extent-following.ensures.told pool k) in
    c.size_of-in-len1-up.ensures _ extent.spaced extent.sized
