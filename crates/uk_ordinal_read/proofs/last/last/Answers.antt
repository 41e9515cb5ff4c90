-- `uk_ordinal_read::last::last` meets its contract.
-- Assumes nothing.
use mathlib.Core.Path.{◌≡◌, sym, ap, ◌∙◌}
use borrow.Author.Rules.{rules}
use Rattle.uk_ordinal_meanings.specs.Meanings.{meaning_of}
use Rattle.uk_ordinal_read.specs.LastWord.{compound}
use Rattle.uk_ordinal_read.proofs.CountLaws.{plain_stem}
use Rattle.uk_ordinal_read.proofs.last.last.Goals as goal

pub returns : goal.returns
returns c =
    let e : c.eq.result ≡ compound c.args.stem.now = search rules in
    plain_stem c.args.stem.now c.meaning-m.result (sym e ∙ c.if-eq.false) (c.meaning-m.ensures ∙ ap meaning_of c.first-t.ensures.0)
