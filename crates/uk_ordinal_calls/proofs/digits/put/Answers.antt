-- `uk_ordinal_calls::digits::put`: the digits, the hyphen and the ending, one after the other.
-- Assumes nothing.
use Rattle.std.proofs.Common.{arith}
use Rattle.words.specs.Part.{part}
use Rattle.uk_ordinal.specs.Pool.{short_pool}
use Rattle.uk_ordinal_calls.proofs.Hyphened.{size_is, hyphened}
use Rattle.uk_ordinal_calls.proofs.digits.put.Goals as goal

pub returns : goal.returns
returns c =
    let a = c.args in
    let w = part short_pool a.ending in
    let n = size_is a.text.now w in
    let p = c.copy-n in (
      omega (arith, n, p.ensures.0, c.put_short-m.ensures.0),
      hyphened a.out.now a.text.now w p.new.out _ p.result p.ensures.0 p.ensures.1 (omega (arith, n, c.requires.1)) c.put_short-m.ensures.1,
    )
