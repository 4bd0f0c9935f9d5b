-- FORMAT 9.3, 10.4: the head of a row, which is its id and its time, as deltas to the first id and
-- the first timestamp of the body. Rows of every type have it; what follows is their own.
-- To be believed. Assumes nothing.
use Rattle.std.specs.Prelude.{cond, List, ◌++◌, ℕ, ℤ, drop, eqb}
use Rattle.wal_types.specs.Deltas.{plus, minus, to_bits, int_from_bits}
use Rattle.varint.specs.Varint.{varint}
use Rattle.big_endian.specs.Fixed.{be8, read_be8}
use Rattle.body_format.specs.Fields.{Field, got, and_then, varint_at}

-- A delta is 64 bits. It is written as a signed varint, of the number that the bits are in two's
-- complement, and read as one.
unfoldable pub delta_bytes : ℕ → List ℕ
delta_bytes d = varint (int_from_bits d)

unfoldable pub delta_at : List ℕ → ℕ → Field ℕ
delta_at s p = and_then (varint_at s p) (λ x q. got (to_bits x) q)

-- a row's id and time
pub record Head : Type 0 where
  pub id : ℕ
  pub time : ℤ

-- id delta, timestamp delta. A delta is added modulo 2^64 (FORMAT 9.3): to the first id, bytes 1 to
-- 8, or to the first timestamp, bytes 9 to 16.
unfoldable pub head_at : List ℕ → ℕ → Field Head
head_at s p =
    and_then (delta_at s p) (λ d q.
    and_then (delta_at s q) (λ e next.
    got (record { id = plus (read_be8 (drop 1 s)) d; time = int_from_bits (plus (read_be8 (drop 9 s)) e) }) next))

-- The head of id and time (its 64 bits), after the `used` bytes of the body in buffer b (FORMAT
-- 10.4). The first entry writes the first id, the first timestamp, and a head with both deltas 0. A
-- later one writes its deltas to those in bytes 1 to 16, modulo 2^64.
unfoldable pub head_bytes : List ℕ → ℕ → ℕ → ℕ → List ℕ
head_bytes b used id time =
    cond (eqb used 1) (be8 id ++ (be8 time ++ (delta_bytes 0 ++ delta_bytes 0)))
    (delta_bytes (minus id (read_be8 (drop 1 b))) ++ delta_bytes (minus time (read_be8 (drop 9 b))))
