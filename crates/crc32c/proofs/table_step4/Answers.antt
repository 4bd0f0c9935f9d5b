-- `table_step4` meets its contract: four bytes by a caller's table.
use Rattle.std.proofs.Common.{ℕ, ap, ◌∙◌}
use Rattle.crc32c_format.specs.TableSum.{look_up4, table_step4}
use Rattle.std.specs.Int.Bits.{bit_xor}
use Rattle.crc32c.proofs.table_step4.Goals as goal

pub returns : goal.returns
unfolding table_step4
returns c =
    let a = c.args in
    c.look_up4.ensures ∙ ap (λ (x : ℕ). look_up4 a.t.now 0 (bit_xor a.state x)) c.load4.ensures
