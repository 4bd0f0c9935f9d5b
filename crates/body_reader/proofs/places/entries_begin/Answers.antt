-- `entries_begin` meets its contract: by rows or without.
use Rattle.body_plain.specs.Laws.{plain-plain}
use Rattle.body_reader.proofs.places.entries_begin.Goals as goal

pub returns-in-Plain : goal.returns-in-Plain
returns-in-Plain c = rw (c.in-Plain.is, plain-plain c.in-Plain.field-0)
