use Rattle.std.proofs.Common.{◌∙◌, ap}
use Rattle.byte_copy.specs.Put.{put_at, put_end}
use Rattle.big_endian.proofs.Bytes.{be4_bytes}
use Rattle.big_endian.proofs.put_be4.Goals as goal

pub returns-clause-value : goal.returns-clause-value
returns-clause-value c = c.put.ensures.value ∙ ap (put_end c.args.buf.now c.args.at) (c.to_be_bytes.ensures ∙ be4_bytes c.args.x)

pub returns-clause-buf_after : goal.returns-clause-buf_after
returns-clause-buf_after c = c.put.ensures.buf_after ∙ ap (put_at c.args.buf.now c.args.at) (c.to_be_bytes.ensures ∙ be4_bytes c.args.x)
