-- The parts of a histogram in a row: the room that each needs, all of them written, and their
-- sizes.
use Rattle.byte_copy.specs.Put.{put_at, put_end}
use Rattle.byte_copy.specs.PutLaws.{put-fits, end_fits}
use Rattle.wal_types.specs.Deltas.{to_bits}
use Rattle.body_format.specs.declared.BucketKind.{BucketKind}
use Rattle.body_format.specs.declared.Numbers.{Numbers}
use Rattle.body_format.specs.Heads.{head_bytes}
use Rattle.body_format.specs.Entries.{histogram_entry}
use Rattle.body_format.specs.Building.{entry_bytes}
use Rattle.body_format.specs.Histograms.{Span, sides_bytes, lists_bytes, numbers_bytes, Histogram, histogram_bytes, bad_spans}
use Rattle.body_builder.specs.declared.admission.Deltas.{Deltas}
use Rattle.body_builder.specs.Sizes.{deltas_in, zigzags_of}
use Rattle.body_builder.specs.Laws.Putting.{Put, room_then, put_then}
use Rattle.body_builder.specs.Laws.Additions.{Measures, both_sized}
use Rattle.body_builder_histogram.specs.declared.items.Items.TheVariants.{Spans, Buckets}
use Rattle.body_builder_histogram.specs.declared.items.Sides.{Sides as SidesLent}
use Rattle.body_builder_histogram.specs.Firsts.{head_size}
use Rattle.body_builder_histogram.specs.Items.{bad_sides, bytes_of, sides_of}
use Rattle.body_builder_histogram.specs.Lent.{lent, lent_spans, histogram_of}
use Rattle.body_builder_histogram.proofs.Fields.{head-sized}
use Rattle.std.specs.Borrow.{Bor}
use Rattle.std.specs.Prelude.{Option, Some}
use Rattle.std.proofs.Common.{Bool, ◌||◌, ℤ, ap, refl, ◌≡◌, sym, ◌∙◌, List, ◌++◌, ℕ, ◌+◌, ◌≤◌, arith, length, length-append}
use mathlib.Core.Bool.{or-false}
use Rattle.body_builder_histogram.specs.Front.{front_bytes}

-- two lists of bytes: their sizes added up
pub both_measured : (n m : ℕ) (t u : Bool) (a b : List ℕ) → Measures (Some n) t (length a) → Measures (Some m) u (length b)
    → Measures (Some (n + m)) (t || u) (length (a ++ b))
both_measured n m t u a b h k =
    (rw (← h.0) k.0, λ _. rw length-append (both_sized (h.1 (sym h.0)) (k.1 (sym k.0))))

-- the bytes of a histogram whose lists are lent
module _ (b : List ℕ) (u : ℕ) (k : BucketKind) (id : ℕ) (time : ℤ) (n : Numbers) (po : Bor (List ℤ)) (pl : Bor (List ℕ)) (mo : Bor (List ℤ)) (ml : Bor (List ℕ)) (pb mb : Bor (List ℕ)) where
  abbrev spans : SidesLent
  spans = record { positive = Spans po pl; negative = Spans mo ml }

  abbrev buckets : SidesLent
  buckets = record { positive = Buckets k pb; negative = Buckets k mb }

  abbrev whole : Histogram (List Span) (List ℕ)
  whole = histogram_of id time n (lent po.now pl.now mo.now ml.now pb.now mb.now)

  pub histogram-lent : entry_bytes b u (histogram_entry k whole)
      ≡ head_bytes b u id (to_bits time) ++ (numbers_bytes k n ++ (sides_of spans ++ sides_of buckets))
  unfolding entry_bytes histogram_bytes lists_bytes sides_bytes sides_of bytes_of
  histogram-lent = refl

  pub histogram-measured : (size : Option ℕ) (row : Deltas) → row ≡ zigzags_of (deltas_in b u id (to_bits time))
      → Measures size (bad_sides spans || bad_sides buckets) (head_size u row + length (numbers_bytes k n) + (length (sides_of spans) + length (sides_of buckets)))
      → Measures size (bad_spans (lent_spans po.now pl.now) || bad_spans (lent_spans mo.now ml.now)) (length (entry_bytes b u (histogram_entry k whole)))
  histogram-measured size row e m =
      let bad = or-false (bad_spans (lent_spans po.now pl.now) || bad_spans (lent_spans mo.now ml.now)) in
      let same : head_size u row + length (numbers_bytes k n) + (length (sides_of spans) + length (sides_of buckets)) ≡ length (entry_bytes b u (histogram_entry k whole)) =
      omega (
        arith,
        head-sized b u id (to_bits time) row e,
        ap length histogram-lent,
        length-append (head_bytes b u id (to_bits time)) (numbers_bytes k n ++ (sides_of spans ++ sides_of buckets)),
        length-append (numbers_bytes k n) (sides_of spans ++ sides_of buckets),
        length-append (sides_of spans) (sides_of buckets),
      ) in
      rw (bad, same) at m

-- ---- the front: the head and the numbers

pub length_front : (b : List ℕ) (u : ℕ) (k : BucketKind) (id time : ℕ) (n : Numbers)
    → length (front_bytes b u k id time n) ≡ length (head_bytes b u id time) + length (numbers_bytes k n)
unfolding front_bytes
length_front b u k id time n = length-append (head_bytes b u id time) (numbers_bytes k n)

module _ (b : List ℕ) (u : ℕ) (k : BucketKind) (id time : ℕ) (n : Numbers) (room : u + length (front_bytes b u k id time n) ≤ length b) where
  pub front-head-room : u + length (head_bytes b u id time) ≤ length b
  front-head-room = omega (arith, room, length_front b u k id time n)

  module _ (d₁ : List ℕ) (p : ℕ) (w : Put b u (head_bytes b u id time) d₁ p) where
    pub front-numbers-room : p + length (numbers_bytes k n) ≤ length d₁
    unfolding front_bytes
    front-numbers-room = room_then b d₁ u p (head_bytes b u id time) (numbers_bytes k n) room w

    pub front-laid : (d₂ : List ℕ) (q : ℕ) → Put d₁ p (numbers_bytes k n) d₂ q
        → (q ≡ put_end b u (front_bytes b u k id time n)) × (d₂ ≡ put_at b u (front_bytes b u k id time n))
    unfolding front_bytes
    front-laid d₂ q v =
        let both = put_then b d₁ u p (head_bytes b u id time) (numbers_bytes k n) room d₂ q w v in
        (both.0 ∙ sym (end_fits b u _ room), both.1 ∙ sym (put-fits b u _ room))
