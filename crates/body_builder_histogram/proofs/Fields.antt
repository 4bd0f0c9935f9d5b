-- The fields of a histogram: by the bucket kind, and in a row.
use Rattle.std.proofs.Common.{◌≡◌, refl, sym, ap, ◌∙◌, Bool, true, false, List, [], ◌∷◌, ◌++◌, append_assoc, ℕ, ◌+◌, ◌≤◌, ◌<◌, arith, eq-eqb, ne_eqb, eqb-true, ℤ, eqb, length, drop, set, length-set, length-append}
use Rattle.std.proofs.lemmas.Bool.{eqb-false}
use Rattle.byte_copy.specs.Put.{put_at, put_end}
use Rattle.wal_types.specs.Deltas.{minus, int_from_bits}
use Rattle.uvarint.specs.Uvarint.{uvarint}
use Rattle.varint.specs.Varint.{zigzag, varint}
use Rattle.big_endian.specs.Fixed.{be8, read_be8}
use Rattle.big_endian.specs.FixedLaws.{length-be8}
use Rattle.body_format.specs.declared.BucketKind.{BucketKind}
use Rattle.body_format.specs.declared.BucketKind.TheVariants.{Whole, Float}
use Rattle.body_format.specs.declared.Numbers.{Numbers}
use Rattle.body_format.specs.Heads.{delta_bytes, head_bytes}
use Rattle.body_format.specs.Histograms.{count_bytes, bucket_bytes, numbers_bytes, span_bytes}
use Rattle.body_format.proofs.Laws.Heads.{delta_bytes_lem, head_first, head-later}
use Rattle.body_builder.specs.declared.admission.Deltas.{Deltas}
use Rattle.body_builder.specs.Sizes.{deltas_in, zigzags_of}
use Rattle.body_builder.specs.Laws.Putting.{Put, put_last, put_first, room_then, put_then}
use Rattle.body_builder_histogram.specs.Lent.{span_of}
use Rattle.body_builder_histogram.specs.Firsts.{first_bytes, head_size}

-- ---- by the bucket kind

-- a bucket of type 7 is the uvarint of its zigzag
pub whole-bucket : (k : BucketKind) (v z : ℕ) → k ≡ Whole → z ≡ zigzag (int_from_bits v) → uvarint z ≡ bucket_bytes k v
unfolding bucket_bytes
whole-bucket k v z h f = rw (h, f) (sym (delta_bytes_lem v))

pub float_bucket : (k : BucketKind) (v : ℕ) → k ≡ Float → be8 v ≡ bucket_bytes k v
unfolding bucket_bytes
float_bucket k v h = rw h

pub whole-count : (k : BucketKind) (n : ℕ) → k ≡ Whole → uvarint n ≡ count_bytes k n
unfolding count_bytes
whole-count k n h = rw h

pub float_count : (k : BucketKind) (n : ℕ) → k ≡ Float → be8 n ≡ count_bytes k n
unfolding count_bytes
float_count k n h = rw h

-- ---- two in a row, and a put with what follows it

pub put_two : (d d₁ d₂ : List ℕ) (at p q : ℕ) (a b : List ℕ) → at + length (a ++ b) ≤ length d
    → p ≡ put_end d at a → d₁ ≡ put_at d at a → q ≡ put_end d₁ p b → d₂ ≡ put_at d₁ p b → Put d at (a ++ b) d₂ q
put_two d d₁ d₂ at p q a b h e f g i =
    let one : Put d at a d₁ p = put_first d d₁ at p a b h e f in
    put_then d d₁ at p a b h d₂ q one (put_last d₁ d₂ p q b (room_then d d₁ at p a b h one) g i)

put_next : (d d₁ d₂ : List ℕ) (at p q : ℕ) (a b : List ℕ) → at + length (a ++ b) ≤ length d → p ≡ put_end d at a → d₁ ≡ put_at d at a
    → (p + length b ≤ length d₁ → Put d₁ p b d₂ q) → Put d at (a ++ b) d₂ q
put_next d d₁ d₂ at p q a b h e f k =
    let one : Put d at a d₁ p = put_first d d₁ at p a b h e f in
    put_then d d₁ at p a b h d₂ q one (k (room_then d d₁ at p a b h one))

pub length-span : (g : ℤ) (n : ℕ) → length (span_bytes (span_of g n)) ≡ length (varint g) + length (uvarint n)
unfolding span_bytes
length-span g n = length-append (varint g) (uvarint n)

-- ---- the numbers: a byte, and then five fields

module _ (k : BucketKind) (n : Numbers) where
  rest : List ℕ
  rest = varint n.schema ++ (be8 n.threshold ++ (count_bytes k n.zeros ++ (count_bytes k n.count ++ be8 n.sum)))

  pub length-numbers : length (numbers_bytes k n) ≡ 17 + (length (varint n.schema) + (length (count_bytes k n.zeros) + length (count_bytes k n.count)))
  unfolding numbers_bytes
  length-numbers =
      omega (
        arith,
        length-append (varint n.schema) (be8 n.threshold ++ (count_bytes k n.zeros ++ (count_bytes k n.count ++ be8 n.sum))),
        length-append (be8 n.threshold) (count_bytes k n.zeros ++ (count_bytes k n.count ++ be8 n.sum)),
        length-append (count_bytes k n.zeros) (count_bytes k n.count ++ be8 n.sum),
        length-append (count_bytes k n.count) (be8 n.sum),
        length-be8 n.threshold,
        length-be8 n.sum,
      )

  module _ (d : List ℕ) (at : ℕ) (room : at + length (numbers_bytes k n) ≤ length d) where
    pub hint-room : at < length d
    unfolding numbers_bytes
    hint-room = omega (arith, room)

    rest-room : at + 1 + length rest ≤ length (set d at n.hint)
    unfolding numbers_bytes rest
    rest-room = rw (length-set d at n.hint) (omega (arith, room))

    pub numbers-laid : (d₂ d₃ d₄ d₅ d₆ : List ℕ) (p₃ p₄ p₅ p₆ p₇ : ℕ)
        → p₃ ≡ put_end (set d at n.hint) (at + 1) (varint n.schema) → d₂ ≡ put_at (set d at n.hint) (at + 1) (varint n.schema)
        → p₄ ≡ put_end d₂ p₃ (be8 n.threshold) → d₃ ≡ put_at d₂ p₃ (be8 n.threshold)
        → p₅ ≡ put_end d₃ p₄ (count_bytes k n.zeros) → d₄ ≡ put_at d₃ p₄ (count_bytes k n.zeros)
        → p₆ ≡ put_end d₄ p₅ (count_bytes k n.count) → d₅ ≡ put_at d₄ p₅ (count_bytes k n.count)
        → p₇ ≡ put_end d₅ p₆ (be8 n.sum) → d₆ ≡ put_at d₅ p₆ (be8 n.sum)
        → Put d at (numbers_bytes k n) d₆ p₇
    unfolding numbers_bytes rest
    numbers-laid d₂ d₃ d₄ d₅ d₆ p₃ p₄ p₅ p₆ p₇ e₂ f₂ e₃ f₃ e₄ f₄ e₅ f₅ e₆ f₆ =
        put_then d (set d at n.hint) at (at + 1) (n.hint ∷ []) rest room d₆ p₇ (refl, refl)
        (put_next (set d at n.hint) d₂ d₆ (at + 1) p₃ p₇ (varint n.schema) _ rest-room e₂ f₂
        (λ r. put_next d₂ d₃ d₆ p₃ p₄ p₇ (be8 n.threshold) _ r e₃ f₃
        (λ s. put_next d₃ d₄ d₆ p₄ p₅ p₇ (count_bytes k n.zeros) _ s e₄ f₄
        (λ t. put_next d₄ d₅ d₆ p₅ p₆ p₇ (count_bytes k n.count) _ t e₅ f₅
        (λ u. put_last d₅ d₆ p₆ p₇ (be8 n.sum) u e₆ f₆)))))

-- ---- the head

pub firsts-first : (u id time : ℕ) → u ≡ 1 → first_bytes u id time ≡ be8 id ++ be8 time
unfolding first_bytes
firsts-first u id time h = rw (eq-eqb u 1 h)

pub firsts-none : (u id time : ℕ) → (u ≡ 1 → ⊥) → first_bytes u id time ≡ []
unfolding first_bytes
firsts-none u id time h = rw (ne_eqb u 1 h)

-- a row's head by its deltas: the first id and timestamp, if any, and then both deltas
module _ (b : List ℕ) (u id time : ℕ) (row : Deltas) (e : row ≡ zigzags_of (deltas_in b u id time)) where
  abbrev Parts : Type 0
  Parts = head_bytes b u id time ≡ first_bytes u id time ++ (uvarint row.id ++ uvarint row.time)

  parts_first : u ≡ 1 → Parts
  unfolding delta_bytes varint zigzag int_from_bits first_bytes
  parts_first h =
      let r : row ≡ record { id = 0; time = 0 } = rw (eq-eqb u 1 h) at e in
      rw (r, eq-eqb u 1 h, first_bytes) (head_first b u id time h ∙ sym (append_assoc (be8 id) (be8 time) (uvarint 0 ++ uvarint 0)))

  parts_later : (u ≡ 1 → ⊥) → Parts
  unfolding delta_bytes varint first_bytes
  parts_later h =
      let r : row ≡ zigzags_of (record { id = minus id (read_be8 (drop 1 b)); time = minus time (read_be8 (drop 9 b)) }) = rw (ne_eqb u 1 h) at e in
      rw (r, ne_eqb u 1 h, first_bytes) (head-later b u id time h)

  first-sized : head_size u row ≡ length (first_bytes u id time) + (length (uvarint row.id) + length (uvarint row.time))
  first-sized = go (eqb u 1) refl
    where
      go : (t : Bool) → eqb u 1 ≡ t → head_size u row ≡ length (first_bytes u id time) + (length (uvarint row.id) + length (uvarint row.time))
      go true a =
          let n : length (first_bytes u id time) ≡ 16 = ap length (firsts-first u id time (eqb-true u 1 a)) ∙ omega (arith, length-append (be8 id) (be8 time), length-be8 id, length-be8 time) in
          rw a (omega (arith, n))
      go false a =
          let n : length (first_bytes u id time) ≡ 0 = ap length (firsts-none u id time (eqb-false u 1 a)) in
          rw a (omega (arith, n))

  pub head_parts : Parts
  head_parts = go (eqb u 1) refl
    where
      go : (t : Bool) → eqb u 1 ≡ t → Parts
      go true a = parts_first (eqb-true u 1 a)
      go false a = parts_later (eqb-false u 1 a)

  pub head-sized : head_size u row ≡ length (head_bytes b u id time)
  head-sized =
      first-sized
      ∙ sym (ap length head_parts ∙ length-append (first_bytes u id time) (uvarint row.id ++ uvarint row.time) ∙ ap (λ (n : ℕ). length (first_bytes u id time) + n) (length-append (uvarint row.id) (uvarint row.time)))

  -- from what its puts write
  pub head-laid : (d₁ d₂ d₃ : List ℕ) (p q r : ℕ) → u + length (head_bytes b u id time) ≤ length b
      → Put b u (first_bytes u id time) d₁ p
      → q ≡ put_end d₁ p (uvarint row.id) → d₂ ≡ put_at d₁ p (uvarint row.id)
      → r ≡ put_end d₂ q (uvarint row.time) → d₃ ≡ put_at d₂ q (uvarint row.time)
      → Put b u (head_bytes b u id time) d₃ r
  head-laid d₁ d₂ d₃ p q r room w e₂ f₂ e₃ f₃ =
      let room₀ : u + length (first_bytes u id time ++ (uvarint row.id ++ uvarint row.time)) ≤ length b = rw head_parts at room in
      let room₁ = room_then b d₁ u p (first_bytes u id time) (uvarint row.id ++ uvarint row.time) room₀ w in
      rw head_parts
      (put_then b d₁ u p (first_bytes u id time) (uvarint row.id ++ uvarint row.time) room₀ d₃ r w
      (put_two d₁ d₂ d₃ p q r (uvarint row.id) (uvarint row.time) room₁ e₂ f₂ e₃ f₃))

  pub firsts-room : u + length (head_bytes b u id time) ≤ length b → u + length (first_bytes u id time) ≤ length b
  firsts-room room = omega (arith, room, ap length head_parts, length-append (first_bytes u id time) (uvarint row.id ++ uvarint row.time))
