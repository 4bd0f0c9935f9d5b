-- `get_be4` meets its contract: the number, where four bytes are present.
use Rattle.std.proofs.Common.{sym, ◌∙◌, ap, arith, length-drop, drop}
use Rattle.std.specs.Int.{w32, from_be_bytes}
use Rattle.big_endian.specs.FixedLaws.{short4}
use Rattle.big_endian.proofs.Bytes.{bytes_be4}
use Rattle.big_endian.proofs.get_be4.Goals as goal

pub returns-in-Some-clause-value : goal.returns-in-Some-clause-value
returns-in-Some-clause-value c =
    let e = c.in-Some.ensures in
    c.from.ensures ∙ c.from_be_bytes.ensures ∙ ap (from_be_bytes w32) e.1 ∙ bytes_be4 (drop c.args.at c.args.buf.now) (rw length-drop (omega arith))

pub returns-in-None-clause-value : goal.returns-in-None-clause-value
returns-in-None-clause-value c = sym (short4 _ (rw length-drop (omega (arith, c.in-None.ensures))))
