-- `groups::fill` meets its contract: each turn stores a group more, and where no digits are left the other groups are 0.
use Rattle.std.proofs.Common.{◌≡◌, ℕ, ◌/◌, ◌%◌, ◌^◌, length, sym, ap, ◌∙◌, arith, eqb-true}
use Rattle.std.proofs.lemmas.List.{set-get_or}
use Rattle.figures.specs.Text.{value}
use Rattle.figures.specs.Groups.{groups_of}
use Rattle.figures.proofs.Laws.Buffer.{sofar_all}
use Rattle.figures.proofs.Laws.Groups.{groups_length, rest_turn}
use Rattle.groups.proofs.Triples.{group_turn, stored_all, value_none}
use Rattle.groups.proofs.fill.Goals as goal

pub returns-then-is_empty : goal.returns-then-is_empty
returns-then-is_empty c =
    let at = c.loop-place in
    set-get_or at.out at.place-index 0 ∙
    at.invariant.stored ∙
    stored_all c.args.out.now (value c.args.s.now) at.place-index c.requires.out_value (sym at.invariant.left ∙ value_none at.rest.now (eqb-true _ _ (sym c.if-is_empty.ensures)))

pub loop-place-preserved : goal.loop-place-preserved
loop-place-preserved c =
    let at = c.loop-place in
    let n : ℕ = value c.args.s.now in
    let o : ℕ = at.place-index in
    let split = c.split_group-group.ensures in
    let group : c.split_group-group.result.1 ≡ n / 1000 ^ o % 1000 = split.group ∙ ap (λ (k : ℕ). k % 1000) at.invariant.left in
    record {
      are_digits = split.above.0;
      left = split.above.1 ∙ rest_turn n (value at.rest.now) o at.invariant.left;
      stored = rw at.invariant.stored (group_turn c.args.out.now n o c.split_group-group.result.1 (omega arith) group);
    }

pub returns : goal.returns
returns c =
    let xs = c.args.out.now in
    let n : ℕ = value c.args.s.now in
    c.loop-place.invariant.stored ∙ sofar_all xs (groups_of (length xs) n) c.loop-place.place-index (groups_length (length xs) n) (omega arith)
