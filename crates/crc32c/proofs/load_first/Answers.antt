-- `load_first` meets its contract: of fewer than eight bytes, all.
use Rattle.std.proofs.Common.{arith, sym, ap, ◌∙◌, take_all}
use Rattle.crc32c_format.specs.Bytes.{little_endian}
use Rattle.crc32c.proofs.load_first.Goals as goal

pub returns-else-s-ge8 : goal.returns-else-s-ge8
returns-else-s-ge8 c = c.load_few.ensures ∙ ap little_endian (sym (take_all 8 c.args.s.now (omega arith)))
