-- `Body::add_exemplar` meets its contract: the size, the gate, and then the puts.
use Rattle.std.proofs.Common.{◌∙◌, ◌++◌, ◌+◌, ◌≤◌, ap, length, length-append, arith}
use Rattle.wal_types.specs.Deltas.{to_bits}
use Rattle.body_format.specs.Entries.{exemplar_entry}
use Rattle.body_format.specs.Building.{entry_bytes, row_bytes, string_list_bytes, cut_strings, bad_list}
use Rattle.body_builder.specs.Sizes.{zigzags_of}
use Rattle.body_builder.specs.Laws.Putting.{room_then, put_then}
use Rattle.body_builder.specs.Laws.Additions.{Opened, admitted, turned_away, finished}
use Rattle.body_builder.proofs.Sizing.{exemplar_sized, good-sum}
use Rattle.body_builder.proofs.Body.add_exemplar.Goals as goal
use Rattle.body_builder.proofs.Body.add_exemplar.Goals.{In_ok-admit}

opens : (c : In_ok-admit) → let a = c.args in
    Opened a.buffer.now a.self.tag a.self.used.0 (exemplar_entry a.id.0 a.time.0 a.bits (cut_strings a.strings.now a.lengths.now)) (bad_list a.strings.now a.lengths.now)
opens c =
    let a = c.args in
    let row = c.zigzags-row.ensures ∙ ap zigzags_of c.deltas_of.ensures in
    let sized = exemplar_sized _ _ _ _ _ a.id.0 a.time.0 a.bits _ row (rw c.row_size.ensures.0 at c.entry_size-size.ensures) in
    admitted _ _ _ _ _ _ sized _ c.admit.ensures c.in_ok-admit.was

-- the room for the row and the list
room : (c : In_ok-admit) → let a = c.args in
    a.self.used.0 + length (row_bytes a.buffer.now a.self.used.0 a.id.0 (to_bits a.time.0) a.bits ++ string_list_bytes (cut_strings a.strings.now a.lengths.now)) ≤ length a.buffer.now
unfolding entry_bytes
room c = (opens c).room

pub put_row-labels-requires : goal.put_row-labels-requires
put_row-labels-requires c =
    let a = c.args in
    let row = row_bytes a.buffer.now a.self.used.0 a.id.0 (to_bits a.time.0) a.bits in
    let both = room (goal.at.put_row-labels-requires c).In_ok-admit in (
      c.zigzags-row.ensures ∙ ap zigzags_of c.deltas_of.ensures,
      omega (arith, both, length-append row (string_list_bytes (cut_strings a.strings.now a.lengths.now))),
    )

pub put_list-next-requires : goal.put_list-next-requires
put_list-next-requires c =
    let o = (goal.at.put_list-next-requires c).In_ok-admit in
    let w = c.put_row-labels.ensures in
    (good-sum _ _ (opens o).list, room_then _ _ _ _ _ _ (room o) (w.value, w.buffer_after))

pub returns : goal.returns
unfolding entry_bytes
returns c =
    let o = (goal.at.returns c).In_ok-admit in
    let w = c.put_row-labels.ensures in
    let v = c.put_list-next.ensures in
    let puts = put_then _ _ _ _ _ _ (room o) _ _ (w.value, w.buffer_after) (v.value, v.buffer_after) in
    let both = finished _ _ _ _ _ _ _ (opens o) puts in
    record { answer = both.0; bytes = both.1 }

pub returns-in_err-admit : goal.returns-in_err-admit
returns-in_err-admit c =
    let a = c.args in
    let row = c.zigzags-row.ensures ∙ ap zigzags_of c.deltas_of.ensures in
    let sized = exemplar_sized _ _ _ _ _ a.id.0 a.time.0 a.bits _ row (rw c.row_size.ensures.0 at c.entry_size-size.ensures) in
    let both = turned_away _ _ _ _ _ _ sized _ c.admit.ensures c.in_err-admit.was _ c.from_residual.ensures.1 in
    record { answer = both.0; bytes = both.1 }
