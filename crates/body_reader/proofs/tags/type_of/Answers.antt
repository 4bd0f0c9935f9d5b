-- `type_of` meets its contract: 2, below 2, or from 3 on.
use Rattle.std.proofs.Common.{◌≡◌, sym, ap, arith}
use Rattle.body_format.specs.Entries.{body_type_of}
use Rattle.body_format.proofs.Laws.Types.{type_unknown}
use Rattle.body_reader.specs.Layouts.{type_found}
use Rattle.body_reader.proofs.tags.type_of.Goals as goal

pub returns-then-tag-gt-SERIES : goal.returns-then-tag-gt-SERIES
unfolding body_type_of
returns-then-tag-gt-SERIES c = let e : c.args.tag ≡ 2 = omega (arith, c.if-tag-lt-TOMBSTONES.true, c.if-tag-gt-SERIES.true) in rw e

pub returns-then-tag-eq-SERIES : goal.returns-then-tag-eq-SERIES
unfolding body_type_of
returns-then-tag-eq-SERIES c = rw c.if-tag-eq-SERIES.true

pub returns-then-tag-lt-TOMBSTONES : goal.returns-then-tag-lt-TOMBSTONES
returns-then-tag-lt-TOMBSTONES c =
    let b = c.args.tag in
    let low = c.if-tag-gt-SERIES.false in
    sym (ap type_found (type_unknown b c.if-tag-eq-SERIES.false (λ e. omega arith) (λ e. omega arith) (λ e. omega arith) (λ e. omega arith) (λ e. omega arith) (λ e. omega arith)))
