-- `put_span_at` meets its contract: there is room for the span, or nothing changes.
use Rattle.std.proofs.Common.{arith, ◌≡◌, sym, ◌∙◌, length, ◌+◌, ◌<◌, to_z-of_z, w32}
use Rattle.byte_copy.specs.PutLaws.{put-fits, end_fits, put_not, end_not}
use Rattle.body_format.specs.Histograms.{span_bytes}
use Rattle.body_builder_histogram.specs.Lent.{span_of}
use Rattle.body_builder_histogram.proofs.spans.put_span_at.Goals as goal
use Rattle.body_builder_histogram.proofs.spans.put_span_at.Goals.{then-buffer-at-via-then-buffer-at, then-buffer-at-via-else-buffer-at+then-buffer-at-2, After-span_size-bytes}

sized : (c : After-span_size-bytes) →
    let a = c.args in
    c.span_size-bytes.result ≡ length (span_bytes (span_of a.offset a.size))
sized c = let n = rw (to_z-of_z {w = w32} c.ranges.offset) at c.span_size-bytes.ensures in n.0

pub returns-then-buffer-at : goal.returns-then-buffer-at
returns-then-buffer-at c =
    let a = c.args in
    let n = (sized (goal.at.returns-then-buffer-at c).After-span_size-bytes) in
    let out : length a.buffer.now < a.at + length (span_bytes (span_of a.offset a.size)) =
    elim c.then-buffer-at.branch [
      | then-buffer-at-via-then-buffer-at w ↦ omega arith
      | then-buffer-at-via-else-buffer-at+then-buffer-at-2 w ↦ omega (arith, n)
    ] in
    record { value = sym (end_not _ _ _ out); buffer_after = sym (put_not _ _ _ out) }

pub put_span-requires : goal.put_span-requires
put_span-requires c = rw (to_z-of_z {w = w32} c.ranges.offset) (omega (arith, sized (goal.at.put_span-requires c).After-span_size-bytes))

pub returns : goal.returns
returns c =
    let s = c in
    let n = sized (goal.at.returns c).After-span_size-bytes in
    let w = rw (to_z-of_z {w = w32} s.ranges.offset) at c.put_span.ensures in
    record { value = w.value ∙ sym (end_fits _ _ _ (omega (arith, n))); buffer_after = w.buffer_after ∙ sym (put-fits _ _ _ (omega (arith, n))) }
