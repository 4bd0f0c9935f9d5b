-- `fill_rows` meets its contract. The loop's invariant: `Filling`.
use Rattle.std.proofs.Common.{arith}
use Rattle.body_samples.proofs.Filling.{filling, row_filled, all_filled}
use Rattle.body_samples.proofs.fill_rows.Goals as goal

pub loop-sample-init : goal.loop-sample-init
loop-sample-init c = filling _ _ _ (omega arith)

pub loop-sample-preserved : goal.loop-sample-preserved
loop-sample-preserved c = rw c.row_at-row.ensures (row_filled _ _ _ _ _ _ c.loop-sample.invariant (omega arith))

pub returns : goal.returns
returns c = all_filled _ _ _ _ _ _ c.loop-sample.invariant (omega arith)
