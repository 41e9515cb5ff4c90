-- `numerals::number_size` meets its contract: the sign is a byte more.
use Rattle.std.proofs.Common.{◌≡◌, ℕ, ◌+◌, ◌≤◌, Bool, true, false, length, arith}
use Rattle.std.specs.Int.{from_bool}
use Rattle.figures.specs.Groups.{total}
use Rattle.figures.specs.Written.{decimal, signed_decimal}
use Rattle.figures.proofs.Laws.Text.{text_small}
use Rattle.numerals.proofs.number_size.Goals as goal

-- the sign's byte
sign_size : (minus : Bool) (n : ℕ) → (length (decimal n) + from_bool minus ≡ length (signed_decimal minus n)) × (from_bool minus ≤ 1)
sign_size true n = (omega arith, omega arith)
sign_size false n = (omega arith, omega arith)

pub overflow_add-result : goal.overflow_add-result
overflow_add-result c = omega (arith, c.text_size.ensures, c.from.ensures, text_small (total c.args.g.now), (sign_size c.args.minus 0).1)

pub returns : goal.returns
returns c =
    let small = text_small (total c.args.g.now) in
    let sign = sign_size c.args.minus (total c.args.g.now) in
    (omega (arith, c.text_size.ensures, c.from.ensures), omega (arith, c.text_size.ensures, c.from.ensures))
