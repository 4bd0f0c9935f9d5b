-- `get_be8` meets its contract: the number, where eight bytes are present.
use Rattle.std.proofs.Common.{sym, ◌∙◌, ap, arith, length-drop, drop}
use Rattle.std.specs.Int.{w64, from_be_bytes}
use Rattle.big_endian.specs.FixedLaws.{read_short}
use Rattle.big_endian.proofs.Bytes.{bytes_be8}
use Rattle.big_endian.proofs.get_be8.Goals as goal

pub returns-in-Some : goal.returns-in-Some
returns-in-Some c =
    let e = c.in-Some.ensures in
    c.from_be_bytes.ensures ∙ ap (from_be_bytes w64) e.1 ∙ bytes_be8 (drop c.args.at c.args.buf.now) (rw length-drop (omega arith))

pub returns-in-None : goal.returns-in-None
returns-in-None c = sym (read_short _ (rw length-drop (omega (arith, c.in-None.ensures))))
