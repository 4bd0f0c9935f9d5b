-- `add_histogram` meets its contract: the size, the gate, and then the puts.
use Rattle.std.proofs.Common.{◌∙◌, ◌||◌, ap, refl}
use Rattle.body_format.specs.Entries.{histogram_entry}
use Rattle.body_format.specs.Histograms.{bad_spans}
use Rattle.body_builder.specs.Sizes.{zigzags_of}
use Rattle.body_builder.specs.Laws.Additions.{Opened, admitted, turned_away, finished}
use Rattle.body_builder_histogram.specs.Lent.{lent, lent_spans, histogram_of}
use Rattle.body_builder_histogram.proofs.Laying.{bad-sides}
use Rattle.body_builder_histogram.proofs.Parts.{histogram-lent, histogram-measured}
use Rattle.body_builder_histogram.proofs.add_histogram.Goals as goal
use Rattle.body_builder_histogram.proofs.add_histogram.Goals.{In_ok-admit}

opens : (c : In_ok-admit) → let a = c.args in
    Opened a.buffer.now a.body.tag a.body.used.0 (histogram_entry a.kind (histogram_of a.id.0 a.time.0 a.numbers (lent a.po.now a.pl.now a.mo.now a.ml.now a.pb.now a.mb.now)))
    (bad_spans (lent_spans a.po.now a.pl.now) || bad_spans (lent_spans a.mo.now a.ml.now))
opens c =
    let a = c.args in
    let row = c.zigzags-row.ensures ∙ ap zigzags_of c.deltas_of.ensures in
    let m = histogram-measured a.buffer.now a.body.used.0 a.kind a.id.0 a.time.0 a.numbers a.po a.pl a.mo a.ml a.pb a.mb _ _ row c.histogram_size-size.ensures in
    admitted _ _ _ _ _ _ m _ (rw c.tag_of.ensures at c.admit.ensures) c.in_ok-admit.was

pub put_histogram-next-requires : goal.put_histogram-next-requires
put_histogram-next-requires c =
    let a = c.args in
    let o = opens (goal.at.put_histogram-next-requires c).In_ok-admit in
    let lent = histogram-lent a.buffer.now a.body.used.0 a.kind a.id.0 a.time.0 a.numbers a.po a.pl a.mo a.ml a.pb a.mb in
    (c.zigzags-row.ensures ∙ ap zigzags_of c.deltas_of.ensures, bad-sides _ _ o.list, (refl, refl), rw lent at o.room)

pub returns : goal.returns
returns c =
    let a = c.args in
    let lent = histogram-lent a.buffer.now a.body.used.0 a.kind a.id.0 a.time.0 a.numbers a.po a.pl a.mo a.ml a.pb a.mb in
    let w = rw (← lent) at c.put_histogram-next.ensures in
    let both = finished _ _ _ _ _ _ _ (opens (goal.at.returns c).In_ok-admit) w in
    record { answer = both.0; bytes = both.1 }

pub returns-in_err-admit : goal.returns-in_err-admit
returns-in_err-admit c =
    let a = c.args in
    let row = c.zigzags-row.ensures ∙ ap zigzags_of c.deltas_of.ensures in
    let m = histogram-measured a.buffer.now a.body.used.0 a.kind a.id.0 a.time.0 a.numbers a.po a.pl a.mo a.ml a.pb a.mb _ _ row c.histogram_size-size.ensures in
    let both = turned_away _ _ _ _ _ _ m _ (rw c.tag_of.ensures at c.admit.ensures) c.in_err-admit.was _ c.from_residual.ensures.1 in
    record { answer = both.0; bytes = both.1 }
