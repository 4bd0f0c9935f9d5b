-- `zigzag_back` meets its contract: half of u, or −1 − half of u.
use Rattle.std.proofs.Common.{◌/◌, arith, ◌∙◌, eq-eqb, ne_eqb, to_z-of_z, w64}
use mir.Facts.{to_z_pos}
use Rattle.varint.specs.Varint.{unzigzag}
use Rattle.numbers.specs.Signs.{minus_pos}
use Rattle.varint.proofs.zigzag_back.Goals as goal

pub returns-then-u-eq0 : goal.returns-then-u-eq0
unfolding unzigzag
returns-then-u-eq0 c = to_z_pos w64 {n = c.args.u / 2} (omega arith) ∙ rw (eq-eqb _ _ c.if-u-eq0.true, unzigzag)

pub returns-else-u-eq0 : goal.returns-else-u-eq0
unfolding unzigzag
returns-else-u-eq0 c =
    rw (to_z_pos w64 {n = c.args.u / 2} (omega arith), minus_pos (c.args.u / 2), ne_eqb _ _ c.if-u-eq0.false, unzigzag)
    (to_z-of_z {w = w64} (record { sfits = omega arith }))
