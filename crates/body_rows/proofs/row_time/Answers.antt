-- `row_time` meets its contract: the first time, or a delta added to it.
use Rattle.std.proofs.Common.{ℕ, ◌+◌, ◌%◌, ◌^◌, ◌<◌, ◌≡◌, ℤ, rules, arith, sym, ap, ◌∙◌, to_z-of_z, w64, SFits}
use lib.Signed.{mag}
use Rattle.varint.specs.Varint.{unzigzag}
use Rattle.wal_types.specs.Deltas.{plus, to_bits, int_from_bits}
use Rattle.wal_types.specs.DeltaLaws.{from_to, to_lt}
use Rattle.body_rows.proofs.row_time.Goals as goal

rest : (z : ℤ) → mag z < 2 ^ 63 → (to_bits z + 0) % 2 ^ 64 ≡ to_bits z
rest z h = omega (arith, to_lt z h)

-- the delta 0 leaves the first time
same : (z : ℤ) (u : ℕ) → mag z < 2 ^ 63 → u ≡ 0 → z ≡ int_from_bits (plus (to_bits z) (to_bits (unzigzag u)))
unfolding plus to_bits unzigzag
same z u h e = rw e (sym (ap int_from_bits (rest z h) ∙ from_to z h))

pub returns-then-zigzag-eq0 : goal.returns-then-zigzag-eq0
returns-then-zigzag-eq0 c =
    let fits : SFits w64 c.args.first.0 = search rules in
    to_z-of_z {w = w64} fits ∙ same _ _ fits.sfits c.if-zigzag-eq0.true
