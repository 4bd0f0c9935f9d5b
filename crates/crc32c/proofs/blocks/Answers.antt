-- `blocks` meets its contract. The invariant: the register after the block in hand, with the bytes
-- to come, gives what the whole gives.
use Rattle.std.proofs.Common.{arith, ℕ, sym, ap, ◌∙◌, drop}
use Rattle.std.specs.Int.Bits.{bit_xor}
use Rattle.crc32c_format.specs.Crc.{register}
use Rattle.crc32c_format.specs.Method.Parts.{register-done}
use Rattle.crc32c.proofs.ByRows.{halves, in_hand, next_block}
use Rattle.crc32c.proofs.blocks.Goals as goal

pub loop-i-init : goal.loop-i-init
loop-i-init c =
    let a = c.args in
    (omega arith, omega arith, ap (λ (z : ℕ). register z (drop a.at a.s.now)) (halves a.first a.rest))

pub returns-then-n-i-lt8 : goal.returns-then-n-i-lt8
returns-then-n-i-lt8 c =
    let l = c in
    let s = l.args.s.now in
    let i = l.loop-i.i in
    let a = c.bytes4567 in
    let b = c.bytes0123 in
    sym (register-done (bit_xor (bit_xor a.result b.result) l.loop-i.over) i s (omega arith))
    ∙ in_hand (drop i s) l.loop-i.high l.loop-i.low l.loop-i.over a.ensures b.ensures l.loop-i.invariant.2

pub loop-i-preserved : goal.loop-i-preserved
loop-i-preserved c =
    let d = c in
    let l = d in
    let s = l.args.s.now in
    let i = l.loop-i.i in
    let a = d.bytes4567 in
    let b = d.bytes0123 in (
      omega arith,
      omega arith,
      next_block s i (bit_xor (bit_xor a.result b.result) l.loop-i.over) (omega arith) c.load4.ensures c.load4-high.ensures
          (in_hand (drop i s) l.loop-i.high l.loop-i.low l.loop-i.over a.ensures b.ensures l.loop-i.invariant.2),
    )
