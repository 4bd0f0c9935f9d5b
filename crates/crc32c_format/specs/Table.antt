-- Definition: the tables by which a register takes several bits at once.
-- To be believed. Assumes nothing.
use Rattle.std.specs.Prelude.{List, [], ◌∷◌, map, ℕ, zero, suc, ◌+◌, ◌*◌, ◌/◌, ◌%◌, ◌^◌}
use Rattle.crc32c_format.specs.Crc.{bit_steps}

-- n numbers from a
unfoldable pub up_from : ℕ → ℕ → List ℕ
up_from a zero = []
up_from a (suc n) = a ∷ up_from (suc a) n

-- rows of 2 ^ w entries: the entry x of row k is x after w * (k + 1) bit steps
unfoldable pub table_entry : ℕ → ℕ → ℕ
table_entry w i = bit_steps (w * (i / 2 ^ w + 1)) (i % 2 ^ w)

-- the first n entries
unfoldable pub table_of : ℕ → ℕ → List ℕ
table_of w n = map (table_entry w) (up_from 0 n)

-- the table that the caller fills, for slicing by eight: eight rows, one entry for each byte
abbrev pub slice_table : List ℕ
slice_table = table_of 8 2048
