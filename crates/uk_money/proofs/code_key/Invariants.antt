use Rattle.std.proofs.Common.{◌≡◌}
use Rattle.uk_money.specs.Rows.{code_key}
use Rattle.uk_money.proofs.Keys.{key_onto}
use Rattle.uk_money.proofs.code_key.Given as goal

-- the bytes that are left go before those whose number this is
abbrev pub invariant-loop-b : goal.invariant-loop-b
invariant-loop-b l = code_key l.code ≡ key_onto l.key l.b-iterator.iter.rest.now
