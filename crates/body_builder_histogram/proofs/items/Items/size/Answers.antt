-- `size` meets its contract: the count, and the elements.
use Rattle.std.proofs.Common.{◌∙◌, sym, arith}
use Rattle.body_builder_histogram.specs.Items.{bytes_of}
use Rattle.body_builder_histogram.proofs.Laying.{list-above, list-exact}
use Rattle.body_builder_histogram.proofs.items.Items.size.Goals as goal

pub returns-then-count-gt-RECORD_LIMIT : goal.returns-then-count-gt-RECORD_LIMIT
unfolding bytes_of
returns-then-count-gt-RECORD_LIMIT c =
    let good = sym c.if-is_bad.false ∙ c.is_bad.ensures in
    ((good, λ _. list-above _ _ (omega (arith, c.len-count.ensures))), omega arith)

pub returns : goal.returns
unfolding bytes_of
returns c =
    let good = sym c.if-is_bad.false ∙ c.is_bad.ensures in
    let u = rw c.len-count.ensures at c.uvarint_len.ensures in
    let v = c.elements_size.ensures in
    ((good, λ _. list-exact _ _ _ _ u.value v.0), omega (arith, u.lower_bound, v.1))
