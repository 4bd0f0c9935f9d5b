-- `register_by_table` meets its contract: the slices are passed on whole.
use Rattle.std.proofs.Common.{rules, ℕ, List, ap₂, ◌∙◌}
use Rattle.crc32c_format.specs.TableSum.{table_register}
use Rattle.crc32c_format.specs.Laws.{whole_part}
use Rattle.crc32c.proofs.register_by_table.Goals as goal

pub table_register-requires : goal.table_register-requires
table_register-requires c = rw (whole_part c.args.t.now) (search rules)

pub returns : goal.returns
returns c =
    let a = c.args in
    c.table_register.ensures ∙ ap₂ (λ (t s : List ℕ). table_register t a.state s) (whole_part a.t.now) (whole_part a.s.now)
