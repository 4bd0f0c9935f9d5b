-- The head of a row in parts: what the first row of a body has before its deltas, and the deltas by
-- their zigzags.
-- Assumes nothing.
use Rattle.std.specs.Prelude.{cond, List, [], ◌++◌, ℕ, ◌+◌, eqb, length}
use Rattle.uvarint.specs.Uvarint.{uvarint}
use Rattle.big_endian.specs.Fixed.{be8}
use Rattle.body_builder.specs.declared.admission.Deltas.{Deltas}

-- the first id and the first timestamp, in the row after one byte used
unfoldable pub first_bytes : ℕ → ℕ → ℕ → List ℕ
first_bytes u id time = cond (eqb u 1) (be8 id ++ be8 time) []

-- and their number, with that of the deltas
abbrev pub head_size : ℕ → Deltas → ℕ
head_size u row =
    cond (eqb u 1) (16 + (length (uvarint row.id) + length (uvarint row.time)))
    (length (uvarint row.id) + length (uvarint row.time))
