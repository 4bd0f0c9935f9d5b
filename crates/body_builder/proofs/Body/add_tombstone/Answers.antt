-- `Body::add_tombstone` meets its contract: the size, the gate, and then the puts.
use Rattle.std.proofs.Common.{false}
use Rattle.std.specs.Prelude.{Some}
use Rattle.body_format.specs.Entries.{tombstone_entry}
use Rattle.body_builder.specs.Laws.Additions.{Opened, admitted, turned_away, finished}
use Rattle.body_builder.proofs.Sizing.{tombstone_sized}
use Rattle.body_builder.proofs.Body.add_tombstone.Goals as goal
use Rattle.body_builder.proofs.Body.add_tombstone.Goals.{In_ok-admit}

opens : (c : In_ok-admit) → let a = c.args in Opened a.buffer.now a.self.tag a.self.used.0 (tombstone_entry a.id.0 a.min.0 a.max.0) false
opens c =
    let sized = tombstone_sized _ _ _ _ _ _ c.tombstone_size-size.ensures in
    admitted _ _ _ _ _ (Some c.tombstone_size-size.result) sized _ c.admit.ensures c.in_ok-admit.was

pub put_tombstone-next-requires : goal.put_tombstone-next-requires
put_tombstone-next-requires c = (opens (goal.at.put_tombstone-next-requires c).In_ok-admit).room

pub returns : goal.returns
returns c =
    let both = finished _ _ _ _ _ _ _ (opens (goal.at.returns c).In_ok-admit) (c.put_tombstone-next.ensures.value, c.put_tombstone-next.ensures.buffer_after) in
    record { answer = both.0; bytes = both.1 }

pub returns-in_err-admit : goal.returns-in_err-admit
returns-in_err-admit c =
    let sized = tombstone_sized _ _ _ _ _ _ c.tombstone_size-size.ensures in
    let both = turned_away _ _ _ _ _ (Some c.tombstone_size-size.result) sized _ c.admit.ensures c.in_err-admit.was _ c.from_residual.ensures.1 in
    record { answer = both.0; bytes = both.1 }
