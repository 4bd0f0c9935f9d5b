-- Definition: the checksum by a caller-owned table. It is defined for every table; by `slice_table`,
-- or by one too short to be used, it is CRC-32C (Laws.antt).
-- To be believed. Assumes nothing.
use Rattle.std.specs.Prelude.{List, true, false, ℕ, zero, suc, ◌+◌, ◌*◌, ◌-◌, ◌/◌, ◌%◌, length, take, drop, get_or, ltb}
use Rattle.std.specs.Int.Bits.{bit_xor}
use Rattle.crc32c_format.specs.Crc.{register}
use Rattle.crc32c_format.specs.Bytes.{little_endian}

-- two bytes, as the number x, looked up in the rows k and k + 1 of the table t: the lower byte
-- leaves the register first, so it has the later row
unfoldable pub look_up2 : List ℕ → ℕ → ℕ → ℕ
look_up2 t k x = bit_xor (get_or t ((k + 1) * 256 + x % 256) 0) (get_or t (k * 256 + x / 256) 0)

-- four bytes, by the rows k to k + 3
unfoldable pub look_up4 : List ℕ → ℕ → ℕ → ℕ
look_up4 t k x = bit_xor (look_up2 t (k + 2) (x % 65536)) (look_up2 t k (x / 65536))

-- the register c after the first byte of s, after its first four, and after its first eight
unfoldable pub table_step1 : List ℕ → ℕ → List ℕ → ℕ
table_step1 t c s = bit_xor (get_or t (bit_xor c (get_or s 0 0) % 256) 0) (bit_xor c (get_or s 0 0) / 256)

unfoldable pub table_step4 : List ℕ → ℕ → List ℕ → ℕ
table_step4 t c s = look_up4 t 0 (bit_xor c (little_endian (take 4 s)))

unfoldable pub table_step8 : List ℕ → ℕ → List ℕ → ℕ
table_step8 t c s =
    bit_xor (look_up4 t 0 (little_endian (take 4 (drop 4 s)))) (look_up4 t 4 (bit_xor c (little_endian (take 4 s))))

-- the register after n steps of w bytes each
unfoldable pub steps : ℕ → (ℕ → List ℕ → ℕ) → ℕ → ℕ → List ℕ → ℕ
steps w step zero c s = c
steps w step (suc n) c s = steps w step n (step c s) (drop w s)

-- where the whole eights of a list end, and where its whole fours end
abbrev pub eights_end : List ℕ → ℕ
eights_end s = length s - length s % 8

abbrev pub fours_end : List ℕ → ℕ
fours_end s = length s - length s % 4

-- the register after s: as many eights as there are, four where four are left, then single bytes
unfoldable pub table_register : List ℕ → ℕ → List ℕ → ℕ
table_register t c s =
    let eights = steps 8 (table_step8 t) (length s / 8) c s in
    let four = steps 4 (table_step4 t) (length s % 8 / 4) eights (drop (eights_end s) s) in
    steps 1 (table_step1 t) (length s % 4) four (drop (fours_end s) s)

-- the register c after d: a table of fewer than eight rows counts as none; data of 512 bytes and
-- more needs no table
unfoldable pub register_by : List ℕ → ℕ → List ℕ → ℕ
register_by t c d =
    elim (ltb (length t) 2048) [
      | true ↦ register c d
      | false ↦ elim (ltb (length d) 512) [ true ↦ table_register t c d | false ↦ register c d ]
    ]

-- the checksum
unfoldable pub sum_by : List ℕ → List ℕ → ℕ
sum_by t d = bit_xor (register_by t 0xFFFFFFFF d) 0xFFFFFFFF
