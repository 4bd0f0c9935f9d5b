-- `register_by_rows` meets its contract: the first block, and the blocks after it.
use Rattle.std.proofs.Common.{ℕ, ◌-◌, ◌*◌, ◌/◌, ◌%◌, ◌^◌, sym, ap, ap₂, arith, length}
use Rattle.std.specs.Int.Bits.{bit_xor}
use Rattle.crc32c_format.specs.Method.Parts.{register-done}
use Rattle.crc32c.proofs.ByRows.{register-blocks, rest_lt}
use Rattle.crc32c.proofs.register_by_rows.Goals as goal

pub returns-then-n-eq0 : goal.returns-then-n-eq0
returns-then-n-eq0 c = sym (register-done c.args.state 0 c.args.s.now (omega arith))

pub overflow_cast-rest : goal.overflow_cast-rest
overflow_cast-rest c =
    let a = c.args in
    omega (arith, c.from-2.ensures, rest_lt a.state (8 * ((length a.s.now - 1) % 8)) (omega arith))

pub returns : goal.returns
returns c =
    let a = c.args in
    let s = a.s.now in
    let k = (length s - 1) % 8 in
    register-blocks a.state k s (omega arith) (omega (arith, c.if-n-eq0.false))
    (λ j. omega (arith, c.type_inv.s j))
    (ap₂ (λ (z y : ℕ). bit_xor z y * 2 ^ (56 - 8 * k) % 2 ^ 64) c.load_first.ensures c.from.ensures)
    (ap (λ (y : ℕ). y / 2 ^ (8 * k) / 2 ^ 8) c.from-2.ensures) c.blocks-2.ensures
