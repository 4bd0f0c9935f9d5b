-- `copy_array` meets its contract: what was loaded is stored.
use Rattle.std.proofs.Common.{◌≡◌, ◌+◌, ◌-◌, ◌∙◌, ap, arith, length, take, drop, take-take}
use Rattle.byte_copy.specs.CopiedLaws.{part_stored, part_length}
use Rattle.std.proofs.lemmas.List.Edits.{sets}
use Rattle.byte_copy.proofs.copy_array.Goals as goal

pub returns : goal.returns
returns g c =
    let a = c.args in
    let first = rw c.unwrap.ensures at c.first_chunk.ensures.cases in
    let loaded : c.unwrap.result.now ≡ take g.row.N (drop a.from a.source.now) =
    first.same ∙ take-take g.row.N (a.from + g.row.N - a.from) (drop a.from a.source.now) (omega arith) in
    let stored = c.copy_from_slice.ensures in
    let l : length c.copy_from_slice.new.self ≡ a.at + g.row.N - a.at = stored.len ∙ part_length a.to.now a.at _ (omega arith) in
    part_stored a.to.now c.copy_from_slice.new.self a.at (a.at + g.row.N - a.at) l (omega arith) ∙ ap (sets a.to.now a.at) (stored.after ∙ loaded)
