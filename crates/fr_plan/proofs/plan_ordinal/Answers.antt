-- `fr_plan::plan_ordinal` meets its contract: the last word's piece gives way to its stem, and the ending stands behind it.
-- Assumes nothing.
use Prim.Native.Nat.{ℕ}
use mathlib.Core.Path.{sym, ap, ◌∙◌}
use mathlib.Core.Bool.{false}
use mathlib.Core.List.{List, [], ◌∷◌}
use native.Mathlib.Omega.{arith}
use borrow.Author.Tests.{eqb-false}
use lib.ListN.{length, length-append}
use Rattle.base.specs.Utf8.{utf8}
use Rattle.settings.specs.Chosen.{french_numbers_of}
use Rattle.plan.specs.Phrase.{phrase_of}
use Rattle.plan.specs.Plan.{pieces}
use Rattle.figures.specs.Groups.{total}
use Rattle.groups.proofs.Highest.{number_below}
use Rattle.cardinals.specs.Cardinal.{cardinal_words, cardinal_phrase}
use Rattle.fr.specs.Pool.{fr_pool}
use Rattle.fr.specs.Rules.{french_joiner, nth, french}
use Rattle.fr.specs.Ordinal.{nth_of, nth_phrase}
use Rattle.fr.proofs.Tables.{known_fits, premier, ième}
use Rattle.fr.proofs.Ordinals.{some_words, nth_phrase_lem}
use Rattle.fr_plan.proofs.Appends.{as_word, whole_phrase}
use Rattle.fr_plan.proofs.Cases.{spaced_some}
use Rattle.fr_plan.proofs.Endings.{some_codes, last_known, ended}
use Rattle.fr_plan.proofs.plan_ordinal.Goals as goal

pub join-requires : goal.join-requires
join-requires c = (premier.known, omega (arith, ap length c.clear.ensures))

pub returns-then-is : goal.returns-then-is
unfolding nth_phrase nth_of
returns-then-is c =
    let t = as_word (rw c.clear.ensures at c.join.ensures) premier.says in
    (omega (arith, t.near), rw (← c.if-is.ensures) (whole_phrase (french_joiner (french_numbers_of c.args.settings)) (utf8 "premier" ∷ []) t))

pub pop-last-requires : goal.pop-last-requires
pop-last-requires c =
    let S = french_numbers_of c.args.settings in
    let gs = c.args.number.now.groups in
    (omega arith, some_codes _ c.plan_words.ensures (spaced_some (french_joiner S) (cardinal_words (french S) false (total gs)) (some_words S (total gs) (number_below c.args.number.now))))

pub overflow_cast-last : goal.overflow_cast-last
overflow_cast-last c = record { fits = known_fits _ (last_known _ _ c.plan_words.ensures c.pop-last.ensures) }

pub stem-place-requires : goal.stem-place-requires
stem-place-requires c = (c.requires, last_known _ _ c.plan_words.ensures c.pop-last.ensures)

pub returns : goal.returns
unfolding cardinal_phrase french
returns c =
    let S = french_numbers_of c.args.settings in
    let gs = c.args.number.now.groups in
    let t = c.plan_words.ensures in
    let w = c.stem-place.ensures in
    let m = whole_phrase (french_joiner S) (cardinal_words (french S) false (total gs)) t in
    let n = nth_phrase_lem S (total gs) (number_below c.args.number.now) (eqb-false (total gs) 1 (sym c.if-is.ensures)) in
    rw (c.push-2.ensures, c.push.ensures) (
      simp length-append (omega (arith, t.near, ap length c.pop-last.ensures, length-append c.pop-last.new.self (c.pop-last.result ∷ []))),
      ended c.pop-last.new.self c.pop-last.result c.stem-place.result 1325 w.0 w.1 ième.says
          ∙ ap (λ (l : List ℕ). nth (phrase_of (pieces fr_pool l))) (sym c.pop-last.ensures) ∙ ap nth m ∙ sym n,
    )
