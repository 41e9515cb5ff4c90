-- `fr_plan::linked` meets its contract: `et` between joiners, or a hyphen, and then the word.
-- Assumes nothing.
use mathlib.Core.Path.{sym}
use native.Mathlib.Omega.{arith}
use lib.Dec.{lit<}
use Rattle.settings.specs.Chosen.{french_numbers_of}
use Rattle.words.specs.Part.{part}
use Rattle.fr.specs.Pool.{fr_pool}
use Rattle.fr.proofs.Tables.{et}
use Rattle.fr_plan.proofs.Appends.{after, likewise, one_word, as_word}
use Rattle.fr_plan.proofs.Cases.{link_et, link_hyphen}
use Rattle.fr_plan.proofs.linked.Goals as goal

pub join-requires : goal.join-requires
join-requires c = (et.known, omega arith)

pub returns-then-takes_et : goal.returns-then-takes_et
returns-then-takes_et c =
    let a = c.args in
    likewise 2 (after 2 (as_word c.join.ensures et.says) c.join-then-takes_et.ensures (omega arith)) (omega arith)
    (link_et (french_numbers_of a.settings) a.t a.u (part fr_pool a.place) (sym c.if-takes_et.ensures))

pub returns-else-takes_et : goal.returns-else-takes_et
returns-else-takes_et c =
    let a = c.args in
    likewise 2 (one_word 45 a.place c.push.ensures (lit< tt) (lit< tt) c.requires.0) (omega arith)
    (link_hyphen (french_numbers_of a.settings) a.t a.u (part fr_pool a.place) (sym c.if-takes_et.ensures))
