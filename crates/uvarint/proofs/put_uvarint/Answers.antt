-- `put_uvarint` meets its contract: the groups, where they fit.
use Rattle.std.proofs.Common.{◌+◌, ◌<◌, length, arith, sym, ◌∙◌}
use Rattle.byte_copy.specs.PutLaws.{put-fits, put_not, end_fits, end_not}
use Rattle.uvarint.specs.Uvarint.{uvarint}
use Rattle.uvarint.proofs.put_uvarint.Goals as goal
use Rattle.uvarint.proofs.put_uvarint.Goals.{Joined-then-buf-at, then-buf-at-via-then-buf-at, then-buf-at-via-else-buf-at+then-buf-at-2}

no_room : (c : Joined-then-buf-at) → length c.args.buf.now < c.args.at + length (uvarint c.args.n)
no_room c = elim c.then-buf-at.branch [ then-buf-at-via-then-buf-at w ↦ omega arith | then-buf-at-via-else-buf-at+then-buf-at-2 w ↦ omega arith ]

pub returns-then-buf-at : goal.returns-then-buf-at
returns-then-buf-at c =
    let small = no_room (goal.at.returns-then-buf-at c).Joined-then-buf-at in
    record { value = sym (end_not _ _ _ small); buf_after = sym (put_not _ _ _ small) }

pub returns : goal.returns
returns c =
    let w = c.write_groups.ensures in
    record { value = w.value ∙ sym (end_fits _ _ _ (omega arith)); buf_after = w.buf_after ∙ sym (put-fits _ _ _ (omega arith)) }
