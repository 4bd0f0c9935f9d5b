-- `depot_wal_feed_read` meets its contract, which is that of the calls it makes.
use Rattle.std.proofs.Common.{sym, ap, ◌∙◌}
use Rattle.segment_format.specs.Sums.{version_sum}
use Rattle.depot_wal_feed.specs.Numbers.{ReadCall}
use Rattle.depot_wal_feed.specs.Laws.{read_told, read-unknown}
use Rattle.depot_wal_feed.proofs.calls.depot_wal_feed_read.Goals as goal

pub returns-then-is_known : goal.returns-then-is_known
returns-then-is_known c =
    let a = c.args in
    let e = read_told version_sum a.state.now a.page.now a.buffer.now _ _ _
    (sym c.is_known.ensures ∙ c.if-is_known.true)
    c.state_of.ensures (rw c.version_in.ensures at c.read-read.ensures) in (
      c.read_result-code.ensures.0 ∙ ap (λ (x : ReadCall). x.code) e,
      c.read_result-code.ensures.1 ∙ ap (λ (x : ReadCall). x.out) e,
      c.store_place.ensures ∙ ap (λ (x : ReadCall). x.state) e,
      ap (λ (x : ReadCall). x.buffer) e,
    )

pub returns : goal.returns
returns c =
    let a = c.args in
    let e = read-unknown version_sum a.state.now a.page.now a.buffer.now (sym c.is_known.ensures ∙ c.if-is_known.false) in (
      c.number.ensures ∙ ap (λ (x : ReadCall). x.code) e,
      ap (λ (x : ReadCall). x.out) e,
      ap (λ (x : ReadCall). x.state) e,
      ap (λ (x : ReadCall). x.buffer) e,
    )
