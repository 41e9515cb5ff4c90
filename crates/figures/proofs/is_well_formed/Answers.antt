-- `figures::is_well_formed` meets its contract: '-' may not stand before a plain text that begins with '0'.
use Rattle.std.proofs.Common.{◌≡◌, ℕ, true, not, eqb, List, get_or, sym, ap, ◌∙◌}
use Rattle.figures.specs.Text.{plain, unsigned}
use Rattle.figures.proofs.Laws.Sign.{formed_minus}
use Rattle.figures.proofs.is_well_formed.Goals as goal

pub returns-else-not-is_negative : goal.returns-else-not-is_negative
returns-else-not-is_negative c =
    let t = c.after_sign-t.ensures in
    let formed : plain (unsigned c.args.s.now) ≡ true = ap plain (sym t) ∙ sym c.if-is_plain.ensures in
    ap (λ (t : List ℕ). not (eqb (get_or t 0 0) 48)) t ∙
    sym (formed_minus c.args.s.now formed (sym c.if-not-is_negative.ensures))
