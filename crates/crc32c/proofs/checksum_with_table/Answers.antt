-- `checksum_with_table` meets its contract: each branch is a case of the definition.
use Rattle.std.proofs.Common.{arith, sym, ap, ◌∙◌, ℕ}
use Rattle.std.specs.Int.Bits.{bit_xor}
use Rattle.crc32c_format.specs.Crc.{crc32c}
use Rattle.crc32c_format.specs.Laws.{sum_by-long, sum_by-lent}
use Rattle.crc32c.proofs.checksum_with_table.Goals as goal

pub returns-then-bytes-ge-LONG : goal.returns-then-bytes-ge-LONG
unfolding crc32c
returns-then-bytes-ge-LONG c =
    let a = c.args in
    ap (λ (x : ℕ). bit_xor x 0xFFFFFFFF) c.long_register.ensures ∙ sym (sum_by-long a.table.now a.bytes.now (omega arith))

pub returns-else-bytes-ge-LONG : goal.returns-else-bytes-ge-LONG
returns-else-bytes-ge-LONG c =
    let a = c.args in
    ap (λ (x : ℕ). bit_xor x 0xFFFFFFFF) c.register_by_table.ensures ∙ sym (sum_by-lent a.table.now a.bytes.now (omega arith) (omega arith))
