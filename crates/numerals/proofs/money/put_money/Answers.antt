-- `numerals::money::put_money` meets its contract: the whole part, and after it '.' and two digits where there are hundredths.
use Rattle.std.proofs.Common.{ℕ, ◌-◌, ◌∷◌, sym, ap, ◌∙◌, arith}
use Rattle.base.specs.Buffer.{over}
use Rattle.figures.specs.Groups.{total}
use Rattle.figures.specs.Written.{decimal, fixed}
use Rattle.figures.proofs.Laws.Buffer.{wrote}
use Rattle.figures.proofs.Laws.Money.{money_some, size_some}
use Rattle.numerals.proofs.money.put_money.Goals as goal

pub returns-else-h-eq0 : goal.returns-else-h-eq0
returns-else-h-eq0 c =
    let xs = c.args.out.now in
    let n : ℕ = total c.args.g.now in
    let h : ℕ = c.args.h in
    wrote (c.args.w - 3) xs (decimal n) (46 ∷ fixed 2 h) c.put_text-else-h-eq0.new.out c.put_hundredths.new.out (omega (arith, size_some n h c.if-h-eq0.false)) c.put_text-else-h-eq0.ensures
    c.put_hundredths.ensures ∙
    sym (ap (over xs) (money_some n h c.if-h-eq0.false))
