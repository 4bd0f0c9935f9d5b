-- Each turn appends the digits of one more byte.
use Rattle.std.proofs.Common.{rules, ◌<◌, length, take, subst, sym}
use Rattle.std.specs.Io.KnownBytes.{Appends}
use Rattle.print.proofs.bytes.Goals as goal
use Rattle.print.proofs.Appending.{appends_nothing, appends_more, hex_pairs_more}
use Rattle.print.specs.Pairs.{hex_pairs}

pub loop-b-init : goal.loop-b-init
unfolding hex_pairs
loop-b-init g c = appends_nothing _

pub loop-b-preserved : goal.loop-b-preserved
loop-b-preserved g c =
    let items : _ = take c.min-count.result c.args.s.now in
    let in_bounds : c.loop-b.b-index < length items = search rules in
    subst (λ digits. Appends (g.W.Write.contents c.args.out.now) (g.W.Write.contents c.byte.new.out) digits)
    (sym (hex_pairs_more items c.loop-b.b-index in_bounds))
    (appends_more _ _ _ _ _ c.loop-b.invariant c.in_ok-byte.ensures)
