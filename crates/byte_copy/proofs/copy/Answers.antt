-- `copy` meets its contract: where the bytes fit they are stored, byte by byte or by chunks.
use Rattle.std.proofs.Common.{sym, arith}
use Rattle.byte_copy.specs.CopiedLaws.{copied-fits, copied-short, copied-full}
use Rattle.byte_copy.proofs.copy.Goals as goal
use Rattle.byte_copy.proofs.copy.Goals.{then-source-from-via-then-source-from, then-source-from-via-else-source-from+then-source-from-2, then-to-at-via-then-to-at, then-to-at-via-else-to-at+then-to-at-2}

pub returns-then-source-from : goal.returns-then-source-from
returns-then-source-from c =
    sym (copied-short _ _ _ _ _ (elim c.then-source-from.branch [
      | then-source-from-via-then-source-from w ↦ omega arith
      | then-source-from-via-else-source-from+then-source-from-2 w ↦ omega arith
    ]))

pub returns-then-to-at : goal.returns-then-to-at
returns-then-to-at c =
    sym (copied-full _ _ _ _ _ (elim c.then-to-at.branch [
      | then-to-at-via-then-to-at w ↦ omega arith
      | then-to-at-via-else-to-at+then-to-at-2 w ↦ omega arith
    ]))

pub returns-then-count-lt-CHUNK : goal.returns-then-count-lt-CHUNK
returns-then-count-lt-CHUNK c =
    let a = c.args in
    rw (copied-fits a.source.now a.from a.count a.to.now a.at (omega arith) (omega arith)) c.copy_bytes.ensures

pub returns-else-count-lt-CHUNK : goal.returns-else-count-lt-CHUNK
returns-else-count-lt-CHUNK c =
    let a = c.args in
    rw (copied-fits a.source.now a.from a.count a.to.now a.at (omega arith) (omega arith)) c.copy_long.ensures
