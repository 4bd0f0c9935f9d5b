-- Laws of the head of a row: every delta of 64 bits reads back, and so does a head. The code reads
-- and writes the zigzag of a delta, a uvarint.
-- Assumes nothing.
use Rattle.std.proofs.Common.{◌≡◌, List, ◌++◌, ℕ, ◌+◌, ◌^◌, ◌<◌, ℤ, length, drop, refl, ap, ◌∙◌, arith, eq-eqb, ne_eqb, length-append}
use Rattle.std.specs.Int.Signed.{mag}
use Rattle.wal_types.specs.declared.Refusal.{Refusal}
use Rattle.wal_types.specs.Deltas.{minus, to_bits, int_from_bits}
use Rattle.wal_types.specs.DeltaLaws.{from_to, to_from, to_lt, from-fits, plus-minus, minus_lt}
use Rattle.uvarint.specs.Results.UvarintRead.{UvarintRead}
use Rattle.uvarint.specs.Results.UvarintRead as u
use Rattle.uvarint.specs.Uvarint.{uvarint, read_uvarint, groups}
use Rattle.varint.specs.Varint.{zigzag, unzigzag, varint, signed, read_varint}
use Rattle.big_endian.specs.Fixed.{be8, read_be8}
use Rattle.body_format.specs.Fields.{Field, got, fault, and_then, uvarint_of, uvarint_at, varint_of, varint_at}
use Rattle.body_format.specs.Heads.{delta_bytes, delta_at, head_at, head_bytes}
use Rattle.body_format.proofs.Laws.Fields.{place_same, Stands, stands-left, stands_right, read-varint-at}

-- ---- a delta

-- its bytes are the uvarint of its zigzag
pub delta_bytes_lem : (d : ℕ) → delta_bytes d ≡ uvarint (zigzag (int_from_bits d))
unfolding delta_bytes varint
delta_bytes_lem d = refl

-- the delta 0 has one byte
pub length_delta_0 : length (delta_bytes 0) ≡ 1
unfolding delta_bytes varint zigzag int_from_bits uvarint groups
length_delta_0 = refl

-- a signed varint is a uvarint whose zigzag is taken back
pub varint-uvarint : (s : List ℕ) (p : ℕ) → varint_at s p ≡ and_then (uvarint_at s p) (λ n q. got (unzigzag n) q)
unfolding varint_at uvarint_at read_varint signed
varint-uvarint s p = go (read_uvarint (drop p s))
  where
    go : (r : UvarintRead) → varint_of p (signed r) ≡ and_then (uvarint_of p r) (λ n q. got (unzigzag n) q)
    go (u.Value n len) = refl
    go u.Short = refl
    go u.BadVarint = refl

module _ (s : List ℕ) (p : ℕ) where
  -- and so is a delta
  pub delta_uvarint : delta_at s p ≡ and_then (uvarint_at s p) (λ n q. got (to_bits (unzigzag n)) q)
  unfolding delta_at
  delta_uvarint = ap (λ (f : Field ℤ). and_then f (λ x q. got (to_bits x) q)) (varint-uvarint s p) ∙ go (uvarint_at s p)
    where
      go : (f : Field ℕ) → and_then (and_then f (λ n q. got (unzigzag n) q)) (λ x q. got (to_bits x) q) ≡ and_then f (λ n q. got (to_bits (unzigzag n)) q)
      go (got n q) = refl
      go (fault why) = refl

  pub delta_got : (n q : ℕ) → uvarint_at s p ≡ got n q → delta_at s p ≡ got (to_bits (unzigzag n)) q
  delta_got n q e = delta_uvarint ∙ rw e

  pub delta_fault : (why : Refusal) → uvarint_at s p ≡ fault why → delta_at s p ≡ fault why
  delta_fault why e = delta_uvarint ∙ rw e

  -- every 64-bit delta reads back
  pub read_delta : (d : ℕ) → d < 2 ^ 64 → Stands s p (delta_bytes d) → delta_at s p ≡ got d (p + length (delta_bytes d))
  unfolding delta_at delta_bytes
  read_delta d h st = rw (read-varint-at s p (int_from_bits d) (from-fits d h) st, to_from d h)

-- ---- a head

module _ (b : List ℕ) (used id time : ℕ) where
  -- the first one of a body
  pub head_first : used ≡ 1 → head_bytes b used id time ≡ be8 id ++ (be8 time ++ (delta_bytes 0 ++ delta_bytes 0))
  unfolding head_bytes
  head_first h = rw (eq-eqb used 1 h)

  -- a later one
  pub head-later : (used ≡ 1 → ⊥)
      → head_bytes b used id time ≡ delta_bytes (minus id (read_be8 (drop 1 b))) ++ delta_bytes (minus time (read_be8 (drop 9 b)))
  unfolding head_bytes
  head-later h = rw (ne_eqb used 1 h)

-- a row after `used` bytes is a later one: the body s has the first id and the first timestamp that
-- buffer b holds, each of 64 bits
pub record Firsts (b : List ℕ) (used : ℕ) (s : List ℕ) : Type 0 where
  pub later : used ≡ 1 → ⊥
  pub id : read_be8 (drop 1 s) ≡ read_be8 (drop 1 b)
  pub time : read_be8 (drop 9 s) ≡ read_be8 (drop 9 b)
  pub id-fits : read_be8 (drop 1 b) < 2 ^ 64
  pub time-fits : read_be8 (drop 9 b) < 2 ^ 64

-- adding its deltas modulo 2^64 gives the id and the time back
pub read_head : (b : List ℕ) (used : ℕ) (s : List ℕ) (p id : ℕ) (time : ℤ) → id < 2 ^ 64 → mag time < 2 ^ 63 → Firsts b used s
    → Stands s p (head_bytes b used id (to_bits time))
    → head_at s p ≡ got (record { id = id; time = time }) (p + length (head_bytes b used id (to_bits time)))
unfolding head_at
read_head b used s p id time hi ht f st =
    let d : List ℕ = delta_bytes (minus id (read_be8 (drop 1 b))) in
    let e : List ℕ = delta_bytes (minus (to_bits time) (read_be8 (drop 9 b))) in
    let here : Stands s p (d ++ e) = rw (head-later b used id (to_bits time) f.later) at st in
    rw (
      head-later b used id (to_bits time) f.later,
      f.id,
      f.time,
      read_delta s p (minus id (read_be8 (drop 1 b))) (minus_lt id _) (stands-left s p d e here),
      read_delta s (p + length d) (minus (to_bits time) (read_be8 (drop 9 b))) (minus_lt (to_bits time) _) (stands_right s p d e here),
      plus-minus id (read_be8 (drop 1 b)) hi f.id-fits,
      plus-minus (to_bits time) (read_be8 (drop 9 b)) (to_lt time ht) f.time-fits,
      from_to time ht,
    )
    (place_same (omega (arith, length-append d e)))
