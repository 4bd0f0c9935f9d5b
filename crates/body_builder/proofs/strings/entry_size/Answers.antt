-- `entry_size` meets its contract: what is before the list, and the list.
use Rattle.body_builder.proofs.Sizing.{with_list}
use Rattle.body_builder.proofs.strings.entry_size.Goals as goal

pub returns : goal.returns
returns c =
    let list = c.in_ok-list_size.ensures in
    with_list c.args.strings.now c.args.lengths.now c.args.head _ list.bad list.good.0
