-- `long_register` meets its contract: the slice is passed on whole.
use Rattle.std.proofs.Common.{ap, ◌∙◌}
use Rattle.crc32c_format.specs.Crc.{register}
use Rattle.crc32c_format.specs.Laws.{whole_part}
use Rattle.crc32c.proofs.long_register.Goals as goal

pub returns : goal.returns
returns c =
    let a = c.args in
    c.long.ensures ∙ ap (register a.state) (whole_part a.bytes.now)
