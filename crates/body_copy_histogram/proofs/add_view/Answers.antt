-- `add_view` meets its contract: the size, the gate, and then the puts.
use Rattle.std.proofs.Common.{arith, ◌+◌, length}
use Rattle.body_builder.specs.Laws.Additions.{Sized, exact}
use Rattle.body_copy_histogram.specs.Forms.{view_bytes}
use Rattle.body_copy_histogram.proofs.Parts.{view_parts, parts_sized, open-room, open_done, shut_done}
use Rattle.body_copy_histogram.proofs.add_view.Goals as goal
use Rattle.body_copy_histogram.proofs.add_view.Goals.{After-lists_size-lists}

sized : (c : After-lists_size-lists) →
    let a = c.args in
    Sized (c.front_len-front.result + c.lists_size-lists.result) (length (view_bytes a.buffer.now a.body.used.0 a.kind a.from.now a.view))
sized c =
    let a = c.args in
    parts_sized (view_parts a.kind a.from.now a.buffer.now a.body.used.0 a.view) _ _ (exact c.front_len-front.ensures.0) c.lists_size-lists.ensures.0

pub overflow_add-size : goal.overflow_add-size
overflow_add-size c = omega (arith, c.front_len-front.ensures.1, c.lists_size-lists.ensures.1)

pub put_view-next-requires : goal.put_view-next-requires
put_view-next-requires c =
    let a = c.args in
    open-room _ _ _ _ _ (view_bytes a.buffer.now a.body.used.0 a.kind a.from.now a.view) _ c.admit.ensures (sized (goal.at.put_view-next-requires c).After-lists_size-lists) c.in_ok-admit.was

pub returns : goal.returns
returns c = λ e tag bytes.
    open_done _ _ _ _ _ _ _ c.admit.ensures (sized (goal.at.returns c).After-lists_size-lists) e tag bytes c.in_ok-admit.was _ _ c.put_view-next.ensures

pub returns-in_err-admit : goal.returns-in_err-admit
returns-in_err-admit c = λ e tag bytes.
    shut_done _ _ _ _ _ _ _ c.admit.ensures (sized (goal.at.returns-in_err-admit c).After-lists_size-lists) e tag bytes c.in_err-admit.was _ c.from_residual.ensures.1
