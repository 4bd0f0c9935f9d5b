-- `add_exemplar_from` meets its contract: the size, the gate, and then the puts.
use Rattle.std.proofs.Common.{arith, ℕ, refl, List, ◌++◌, length-append}
use Rattle.wal_types.specs.Deltas.{to_bits}
use Rattle.body_format.specs.Entries.{exemplar_entry}
use Rattle.body_format.specs.Building.{row_bytes, entry_bytes}
use Rattle.body_copy.specs.Forms.{list_from}
use Rattle.body_copy.proofs.Gating.{Asked, open-room, open_done, shut_done}
use Rattle.body_copy.proofs.add_exemplar_from.Goals as goal
use Rattle.body_copy.proofs.add_exemplar_from.Goals.{After-admit}

-- what the gate was asked
asked : (c : After-admit) →
    let a = c.args in
    Asked a.buffer.now a.body.tag a.body.used.0 (exemplar_entry a.id.0 a.time.0 a.bits) a.from.now a.count a.first.0 (λ (l : List ℕ). row_bytes a.buffer.now a.body.used.0 a.id.0 (to_bits a.time.0) a.bits ++ l) c.row_len-row.result 4 c.entry_size-size.result c.admit.result
unfolding entry_bytes
asked c =
    let a = c.args in
    let row : List ℕ = row_bytes a.buffer.now a.body.used.0 a.id.0 (to_bits a.time.0) a.bits in
    record {
      shape = refl;
      want_is = refl;
      head_is = omega (arith, c.row_len-row.ensures.0 a.bits, length-append row (list_from a.count a.from.now a.first.0));
      size_is = c.entry_size-size.ensures;
      gate = c.admit.ensures;
    }

pub put_exemplar-next-requires : goal.put_exemplar-next-requires
put_exemplar-next-requires c = open-room _ _ _ _ _ _ _ _ _ _ _ _ (asked (goal.at.put_exemplar-next-requires c).After-admit) c.in_ok-admit.was

pub returns : goal.returns
returns c =
    let both = open_done _ _ _ _ _ _ _ _ _ _ _ _ (asked (goal.at.returns c).After-admit) c.in_ok-admit.was _ _ c.put_exemplar-next.ensures in
    record { answer = both.0; bytes = both.1 }

pub returns-in_err-admit : goal.returns-in_err-admit
returns-in_err-admit c =
    let both = shut_done _ _ _ _ _ _ _ _ _ _ _ _ (asked (goal.at.returns-in_err-admit c).After-admit) c.in_err-admit.was _ c.from_residual.ensures.1 in
    record { answer = both.0; bytes = both.1 }
