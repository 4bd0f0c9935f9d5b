-- `write_groups` meets its contract. The loop's invariant: writing the groups that are left
-- completes the number.
use Rattle.std.proofs.Common.{◌+◌, ◌≡◌, length}
use lib.Seq.{sets}
use Rattle.uvarint.specs.Uvarint.{uvarint}
use Rattle.uvarint.proofs.write_groups.Given as goal

abbrev pub invariant-loop-rest : goal.invariant-loop-rest
invariant-loop-rest l =
    (sets l.buf l.i (uvarint l.rest) ≡ sets l.initial.buf l.at (uvarint l.n)) × (length l.buf ≡ length l.initial.buf) × (l.i + length (uvarint l.rest) ≡ l.at + length (uvarint l.n))

abbrev pub decreases-loop-rest : goal.decreases-loop-rest
decreases-loop-rest l = l.rest
