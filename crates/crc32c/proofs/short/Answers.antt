-- `short` meets its contract: the slice is passed on whole.
use Rattle.std.proofs.Common.{ap, ◌∙◌}
use Rattle.crc32c_format.specs.Crc.{register}
use Rattle.crc32c_format.specs.Laws.{whole_part}
use Rattle.crc32c.proofs.short.Goals as goal

pub returns : goal.returns
returns c =
    let a = c.args in
    c.register_by_rows.ensures ∙ ap (register a.state) (whole_part a.s.now)
