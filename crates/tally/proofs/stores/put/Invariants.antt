-- The loop of `tally::stores::put`: so many bytes are stored, and those that are left are the lowest of rest.
-- Assumes nothing.
use Rattle.std.proofs.Common.{◌≡◌, ◌-◌, drop}
use Rattle.base.specs.Bytes.{low_bytes}
use Rattle.figures.proofs.Laws.Buffer.{sofar}
use Rattle.tally.proofs.stores.put.Given as goal

abbrev pub invariant-loop-byte : goal.invariant-loop-byte
invariant-loop-byte l =
    record { stored : l.byte-items ≡ sofar l.initial.byte-items (low_bytes l.k l.n) l.byte-index; left : drop l.byte-index (low_bytes l.k l.n) ≡ low_bytes (l.k - l.byte-index) l.rest }
