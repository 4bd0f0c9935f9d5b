-- Defines the varint of a signed number (FORMAT 8.3), and what decoding one finds.
-- To be believed. Assumes nothing.
use Rattle.std.specs.Prelude.{ℕ, ◌+◌, ◌*◌, ◌/◌, ◌%◌, true, false, List, eqb, ℤ, pos, negsuc}
use Rattle.uvarint.specs.Results.UvarintRead.{UvarintRead}
use Rattle.uvarint.specs.Results.UvarintRead as unsigned
use Rattle.varint.specs.Results.VarintRead.{VarintRead}
use Rattle.varint.specs.Results.VarintRead.{Value, Short, BadVarint}
use Rattle.uvarint.specs.Uvarint.{uvarint, read_uvarint}

-- 2x for x ≥ 0, and −2x − 1 for x < 0: `negsuc n` is −(n + 1), and −2 · −(n + 1) − 1 is 2n + 1
unfoldable pub zigzag : ℤ → ℕ
zigzag (pos n) = n * 2
zigzag (negsuc n) = n * 2 + 1

-- an even number is 2x of x ≥ 0, an odd one 2n + 1 of −(n + 1)
unfoldable pub unzigzag : ℕ → ℤ
unzigzag u = elim (eqb (u % 2) 0) [ true ↦ pos (u / 2) | false ↦ negsuc (u / 2) ]

unfoldable pub varint : ℤ → List ℕ
varint x = uvarint (zigzag x)

-- the uvarint's answer, with the signed number for its value
unfoldable pub signed : UvarintRead → VarintRead
signed (unsigned.Value n len) = Value (unzigzag n) len
signed unsigned.Short = Short
signed unsigned.BadVarint = BadVarint

unfoldable pub read_varint : List ℕ → VarintRead
read_varint s = signed (read_uvarint s)
