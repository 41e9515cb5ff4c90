-- `uk_ordinal_read::read_year` meets its contract: what is made of the bytes is compared with the phrase that it has.
-- Assumes nothing.
use mathlib.Core.Path.{sym, ap, ◌∙◌}
use Rattle.settings.specs.Settings.{masculine, in_gender}
use Rattle.settings.specs.Chosen.{numbers_of}
use Rattle.settings.proofs.Chosen.{settings_within}
use Rattle.groups.specs.Read.{read_of, ReadOf}
use Rattle.uk_ordinal_read.specs.Guess.{ordinal_groups}
use Rattle.uk_ordinal_read.specs.Promise.{SaysYear}
use Rattle.uk_ordinal_read.proofs.Answers.{no_year, as_year}
use Rattle.uk_ordinal_read.proofs.read_year.Goals as goal
use Rattle.uk_ordinal_read.proofs.read_year.Goals.{then-is_year, else-is_year}

pub returns : goal.returns
returns c =
    let s = c.args.s.now in
    let S = numbers_of c.args.settings in
    let r = settings_within c.args.settings in
    let e = c.seems_early-early in
    let number = c.guess-magnitude.result in
    let made = c.guess-magnitude.ensures ∙ ap (ordinal_groups (in_gender masculine S)) c.ordinal-ordinal.ensures in
    let reads : ReadOf (SaysYear S s) (read_of c.if-is_year.stands e.result number) =
    elim c.if-is_year.branch [
      | then-is_year w ↦ rw w.stands-is (as_year S r c.requires s e.result e.ensures number made w.is_phrase-stands.result (sym c.is_year.ensures ∙ w.if-is_year.true) w.is_phrase-stands.ensures)
      | else-is_year w ↦ rw (w.stands-is, w.if-is_year.false) (no_year S r c.requires s e.result e.ensures number made (sym c.is_year.ensures ∙ w.if-is_year.false))
    ] in
    rw c.read.ensures reads
