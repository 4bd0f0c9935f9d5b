-- `Body::add_metadata` meets its contract: the size, the gate, and then the puts.
use Rattle.body_format.specs.Entries.{metadata_entry}
use Rattle.body_format.specs.Building.{cut_strings, bad_list}
use Rattle.body_builder.specs.Laws.Additions.{Opened, admitted, turned_away, finished}
use Rattle.body_builder.proofs.Sizing.{metadata_sized, good-sum}
use Rattle.body_builder.proofs.Body.add_metadata.Goals as goal
use Rattle.body_builder.proofs.Body.add_metadata.Goals.{In_ok-admit}

opens : (c : In_ok-admit) → let a = c.args in
    Opened a.buffer.now a.self.tag a.self.used.0 (metadata_entry a.id.0 a.metric_type (cut_strings a.strings.now a.lengths.now)) (bad_list a.strings.now a.lengths.now)
opens c = admitted _ _ _ _ _ _ (metadata_sized _ _ _ _ _ c.args.id.0 c.args.metric_type (rw c.uvarint_len-head.ensures.value at c.entry_size-size.ensures)) _ c.admit.ensures c.in_ok-admit.was

pub put_metadata-next-requires : goal.put_metadata-next-requires
put_metadata-next-requires c =
    let o = opens (goal.at.put_metadata-next-requires c).In_ok-admit in
    (good-sum _ _ o.list, o.room)

pub returns : goal.returns
returns c =
    let o = opens (goal.at.returns c).In_ok-admit in
    let both = finished _ _ _ _ _ _ _ o (c.put_metadata-next.ensures.value, c.put_metadata-next.ensures.buffer_after) in
    record { answer = both.0; bytes = both.1 }

pub returns-in_err-admit : goal.returns-in_err-admit
returns-in_err-admit c =
    let both = turned_away _ _ _ _ _ _ (metadata_sized _ _ _ _ _ c.args.id.0 c.args.metric_type (rw c.uvarint_len-head.ensures.value at c.entry_size-size.ensures)) _ c.admit.ensures c.in_err-admit.was _ c.from_residual.ensures.1 in
    record { answer = both.0; bytes = both.1 }
