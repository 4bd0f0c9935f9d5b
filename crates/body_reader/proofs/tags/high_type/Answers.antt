-- `high_type` meets its contract, by the byte.
use Rattle.std.proofs.Common.{sym, ap, arith}
use Rattle.body_format.specs.Entries.{body_type_of}
use Rattle.body_format.proofs.Laws.Types.{type_unknown}
use Rattle.body_reader.specs.Layouts.{type_found}
use Rattle.body_reader.proofs.tags.high_type.Goals as goal

pub returns-in-3 : goal.returns-in-3
unfolding body_type_of
returns-in-3 c = rw c.in-3.is

pub returns-in-4 : goal.returns-in-4
unfolding body_type_of
returns-in-4 c = rw c.in-4.is

pub returns-in-6 : goal.returns-in-6
unfolding body_type_of
returns-in-6 c = rw c.in-6.is

pub returns-in-7 : goal.returns-in-7
unfolding body_type_of
returns-in-7 c = rw c.in-7.is

pub returns-in-8 : goal.returns-in-8
unfolding body_type_of
returns-in-8 c = rw c.in-8.is

pub returns-in_default : goal.returns-in_default
returns-in_default c =
    let h = c.requires in
    sym (ap type_found (type_unknown c.args.tag (λ e. omega arith) (λ e. omega arith)
    (omega arith) (omega arith) (omega arith) (omega arith) (omega arith)))
