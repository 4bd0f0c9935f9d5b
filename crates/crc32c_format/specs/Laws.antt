-- Laws that other crates cite: data may come in parts; by a table too short to be used, and by
-- `slice_table`, register and sum are those of CRC-32C; a slice passed on whole.
use Rattle.std.specs.Prelude.{◌≡◌, List, [], ◌++◌, ℕ, ◌-◌, ◌<◌, ◌≤◌, length, get_or, take, drop}
use Rattle.std.proofs.Common.{ap, ◌∙◌, ⊎_elim, arith, lt-ltb, le-ltb}
use Rattle.std.specs.Int.Bits.{bit_xor}
use Rattle.std.proofs.Math.Seq.{take-length}
use Rattle.crc32c_format.specs.Crc.{register, crc32c}
use Rattle.crc32c_format.specs.Table.{slice_table}
use Rattle.crc32c_format.specs.TableSum.{table_register, register_by, sum_by}
use Rattle.crc32c_format.specs.Method.Steps as steps
use Rattle.crc32c_format.specs.Method.Lists.{lt_or_ge}
use Rattle.crc32c_format.specs.Method.Tables.{length-table_of}
use Rattle.crc32c_format.specs.Method.Slicing.{table_register-slices}

-- the register after two parts is the register after both at once
pub register-append : (c : ℕ) (xs ys : List ℕ) → register c (xs ++ ys) ≡ register (register c xs) ys
register-append = steps.register-append

-- and it stays below 2^32
pub register_lt : (c : ℕ) (s : List ℕ) → c < 4294967296 → ((k : ℕ) → get_or s k 0 < 256) → register c s < 4294967296
register_lt = steps.register_lt

-- the three cases of `register_by`
pub register_by-short : (t : List ℕ) (c : ℕ) (d : List ℕ) → length t < 2048 → register_by t c d ≡ register c d
unfolding register_by
register_by-short t c d h = rw (lt-ltb (length t) 2048 h, register_by)

pub register_by-lent : (t : List ℕ) (c : ℕ) (d : List ℕ) → 2048 ≤ length t → length d < 512 → register_by t c d ≡ table_register t c d
unfolding register_by
register_by-lent t c d ht hd = rw (le-ltb (length t) 2048 ht, register_by, lt-ltb (length d) 512 hd)

pub register_by-long : (t : List ℕ) (c : ℕ) (d : List ℕ) → 512 ≤ length d → register_by t c d ≡ register c d
unfolding register_by
register_by-long t c d hd =
    ⊎_elim (register_by-short t c d) (λ (ht : 2048 ≤ length t). rw (le-ltb (length t) 2048 ht, register_by, le-ltb (length d) 512 hd)) (lt_or_ge (length t) 2048)

-- by the table that `crc32c_table::fill_table` fills
pub register_by-slices : (c : ℕ) (d : List ℕ) → c < 4294967296 → ((k : ℕ) → get_or d k 0 < 256) → register_by slice_table c d ≡ register c d
register_by-slices c d hc h =
    ⊎_elim
    (λ (l : length d < 512). register_by-lent slice_table c d (omega (arith, length-table_of 8 2048)) l ∙ table_register-slices c d hc h)
    (register_by-long slice_table c d)
    (lt_or_ge (length d) 512)

-- the same of the checksum
pub sum_by-short : (t d : List ℕ) → length t < 2048 → sum_by t d ≡ crc32c d
unfolding sum_by crc32c
sum_by-short t d h = rw (register_by-short t 0xFFFFFFFF d h)

pub sum_by-lent : (t d : List ℕ) → 2048 ≤ length t → length d < 512 → sum_by t d ≡ bit_xor (table_register t 0xFFFFFFFF d) 0xFFFFFFFF
unfolding sum_by
sum_by-lent t d ht hd = rw (register_by-lent t 0xFFFFFFFF d ht hd)

pub sum_by-long : (t d : List ℕ) → 512 ≤ length d → sum_by t d ≡ crc32c d
unfolding sum_by crc32c
sum_by-long t d hd = rw (register_by-long t 0xFFFFFFFF d hd)

-- no table
pub sum_by-none : (d : List ℕ) → sum_by [] d ≡ crc32c d
sum_by-none d = sum_by-short [] d (omega arith)

-- the table that `crc32c_table::fill_table` fills
pub sum_by-slices : (d : List ℕ) → ((k : ℕ) → get_or d k 0 < 256) → sum_by slice_table d ≡ crc32c d
unfolding sum_by crc32c
sum_by-slices d h = ap (λ (c : ℕ). bit_xor c 0xFFFFFFFF) (register_by-slices 0xFFFFFFFF d (omega arith) h)

-- a slice s that is passed on as `&s[0..]`
pub whole_part : (s : List ℕ) → take (length s - 0) (drop 0 s) ≡ s
whole_part s = let n : length s - 0 ≡ length s = omega arith in rw n (take-length s)
