-- `depot_wal_feed_page` meets its contract, which is that of the calls it makes.
use Rattle.std.proofs.Common.{sym, ap, ◌∙◌}
use Rattle.depot_wal_feed.specs.Numbers.{PageCall}
use Rattle.depot_wal_feed.specs.Laws.{page-told, page-unknown}
use Rattle.depot_wal_feed.proofs.calls.depot_wal_feed_page.Goals as goal

pub returns-then-is_known : goal.returns-then-is_known
returns-then-is_known c =
    let a = c.args in
    let e = page-told a.state.now a.page.now _ _
    (sym c.is_known.ensures ∙ c.if-is_known.true)
    c.state_of.ensures c.feed_page-fed.ensures in (
      c.page_result-code.ensures.0 ∙ ap (λ (x : PageCall). x.code) e,
      c.page_result-code.ensures.1 ∙ ap (λ (x : PageCall). x.out) e,
      c.store.ensures ∙ ap (λ (x : PageCall). x.state) e,
    )

pub returns : goal.returns
returns c =
    let a = c.args in
    let e = page-unknown a.state.now a.page.now (sym c.is_known.ensures ∙ c.if-is_known.false) in
    (c.number.ensures ∙ ap (λ (x : PageCall). x.code) e, ap (λ (x : PageCall). x.out) e, ap (λ (x : PageCall). x.state) e)
