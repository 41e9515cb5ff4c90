-- `numerals::text_size` meets its contract: the digits of the highest group, and three for each group below it.
-- Assumes nothing.
use Prim.Native.Nat.{ℕ, ◌+◌, ◌-◌, ◌*◌}
use mathlib.Core.Path.{ap, ◌∙◌}
use native.Mathlib.Omega.{arith}
use lib.ListN.{get_or}
use Rattle.figures.proofs.Laws.Groups.{group_lt}
use Rattle.figures.proofs.Laws.Text.{text_small}
use Rattle.numerals.proofs.Heights.{size_none, size_some}
use Rattle.numerals.proofs.text_size.Goals as goal

pub returns-then-n-eq0 : goal.returns-then-n-eq0
returns-then-n-eq0 c = size_none c.args.g.now c.requires.groups.0 c.args.n c.requires.groups.1 c.if-n-eq0.true

pub group_size-requires : goal.group_size-requires
group_size-requires c = group_lt c.args.g.now (c.args.n - 1) c.requires.groups.0 (omega (arith, c.requires.groups.1.fits))

pub overflow_add-result : goal.overflow_add-result
overflow_add-result c = omega (arith, c.group_size.ensures, text_small (get_or c.args.g.now (c.args.n - 1) 0))

pub returns : goal.returns
returns c =
    ap (λ (k : ℕ). (c.args.n - 1) * 3 + k) c.group_size.ensures ∙ size_some c.args.g.now c.requires.groups.0 c.args.n c.requires.groups.1 c.requires.g_nonzero.1 c.if-n-eq0.false
