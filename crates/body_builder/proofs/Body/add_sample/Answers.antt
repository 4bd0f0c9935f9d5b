-- `Body::add_sample` meets its contract: the size, the gate, and then the puts.
use Rattle.std.proofs.Common.{◌∙◌, ap, false}
use Rattle.std.specs.Prelude.{Some}
use Rattle.body_format.specs.Entries.{sample_entry}
use Rattle.body_format.specs.Building.{entry_bytes}
use Rattle.body_builder.specs.Sizes.{zigzags_of}
use Rattle.body_builder.specs.Laws.Additions.{Opened, admitted, turned_away, finished}
use Rattle.body_builder.proofs.Sizing.{sample_sized}
use Rattle.body_builder.proofs.Body.add_sample.Goals as goal
use Rattle.body_builder.proofs.Body.add_sample.Goals.{In_ok-admit}

opens : (c : In_ok-admit) → let a = c.args in Opened a.buffer.now a.self.tag a.self.used.0 (sample_entry a.id.0 a.time.0 a.bits) false
opens c =
    let a = c.args in
    let row = c.zigzags-row.ensures ∙ ap zigzags_of c.deltas_of.ensures in
    let sized = sample_sized _ _ a.id.0 a.time.0 a.bits _ _ row c.row_size-size.ensures.0 in
    admitted _ _ _ _ _ (Some c.row_size-size.result) sized _ c.admit.ensures c.in_ok-admit.was

pub put_row-next-requires : goal.put_row-next-requires
unfolding entry_bytes
put_row-next-requires c =
    (c.zigzags-row.ensures ∙ ap zigzags_of c.deltas_of.ensures, (opens (goal.at.put_row-next-requires c).In_ok-admit).room)

pub returns : goal.returns
unfolding entry_bytes
returns c =
    let both = finished _ _ _ _ _ _ _ (opens (goal.at.returns c).In_ok-admit) (c.put_row-next.ensures.value, c.put_row-next.ensures.buffer_after) in
    record { answer = both.0; bytes = both.1 }

pub returns-in_err-admit : goal.returns-in_err-admit
returns-in_err-admit c =
    let a = c.args in
    let row = c.zigzags-row.ensures ∙ ap zigzags_of c.deltas_of.ensures in
    let sized = sample_sized _ _ a.id.0 a.time.0 a.bits _ _ row c.row_size-size.ensures.0 in
    let both = turned_away _ _ _ _ _ (Some c.row_size-size.result) sized _ c.admit.ensures c.in_err-admit.was _ c.from_residual.ensures.1 in
    record { answer = both.0; bytes = both.1 }
