-- The fields of a histogram, case by case, in the code's forms.
use Rattle.std.specs.Prelude.{◌≡◌, refl, Bool, true, false, cond, List, ℕ, ◌/◌, ◌%◌, ◌^◌, ◌≤◌, ◌<◌, ℤ, ltb, eqb}
use Rattle.std.specs.Int.Signed.{mag}
use Rattle.std.proofs.Common.{sym, ap, ◌∙◌, arith, ltb-true, lt-ltb, le-ltb}
use Rattle.std.proofs.lemmas.Bool.{ltb-false}
use Rattle.wal_types.specs.declared.Refusal.{Refusal}
use Rattle.wal_types.specs.declared.Refusal.TheVariants.{BadRange}
use Rattle.wal_types.specs.Terms.{offset}
use Rattle.wal_types.specs.Deltas.{to_bits}
use Rattle.varint.specs.Varint.{unzigzag}
use Rattle.body_format.specs.declared.BucketKind.{BucketKind}
use Rattle.body_format.specs.declared.BucketKind.TheVariants.{Whole, Float}
use Rattle.body_format.specs.Results.SpanAnswer as span
use Rattle.body_format.specs.Results.BucketAnswer as bucket
use Rattle.body_format.specs.Fields.{Field, got, fault, and_then, fixed_at, uvarint_at, varint_at}
use Rattle.body_format.specs.Histograms.{int32_at, uint32_at, count_at, bucket_at, span_at}
use Rattle.body_format.specs.Reading.{answer_span, answer_bucket}
use Rattle.body_format.proofs.Laws.Heads.{varint-uvarint, delta_uvarint}
use Rattle.body_fields.specs.Readings.{number_read}
use Rattle.body_fields.specs.Ends.{end_of}
use Rattle.body_fields.specs.Laws.{never}
use Rattle.body_fields.specs.EndLaws.{end-one}
use Rattle.body_histogram.specs.Results.Int32Read.{Int32Read}
use Rattle.body_histogram.specs.Results.Int32Read as int
use Rattle.body_histogram.specs.Forms.{int32_read}

-- ---- numbers of 32 bits

-- a number's magnitude is half its zigzag
half : (n : ℕ) → mag (unzigzag n) ≡ n / 2
unfolding unzigzag
half n = go (eqb (n % 2) 0) refl
  where
    go : (t : Bool) → eqb (n % 2) 0 ≡ t → mag (unzigzag n) ≡ n / 2
    go true e = rw (e, unzigzag)
    go false e = rw (e, unzigzag)

-- a bucket of type 7 is a delta, by its zigzag
abbrev pub bucket_of : BucketKind → ℕ → ℕ
bucket_of Whole n = to_bits (unzigzag n)
bucket_of Float n = n

-- a signed number has 32 bits exactly if its zigzag has
in_32 : (n q p : ℕ) (t : Bool) → ltb n (2 ^ 32) ≡ t
    → cond (ltb (mag (unzigzag n)) (2 ^ 31)) (got (unzigzag n) q) (fault (BadRange (offset p)))
    ≡ and_then (cond t (got n q) (fault (BadRange (offset p)))) (λ m r. got (unzigzag m) r)
in_32 n q p true e = rw (lt-ltb (mag (unzigzag n)) (2 ^ 31) (omega (arith, half n, ltb-true n (2 ^ 32) e)))
in_32 n q p false e = rw (le-ltb (mag (unzigzag n)) (2 ^ 31) (omega (arith, half n, ltb-false n (2 ^ 32) e)))

module _ (s : List ℕ) (p : ℕ) where
  int32_zigzag : int32_at s p ≡ and_then (uint32_at s p) (λ n q. got (unzigzag n) q)
  unfolding int32_at uint32_at
  int32_zigzag = rw (varint-uvarint s p) (go (uvarint_at s p))
    where
      go : (f : Field ℕ)
          → and_then (and_then f (λ n q. got (unzigzag n) q)) (λ x q. cond (ltb (mag x) (2 ^ 31)) (got x q) (fault (BadRange (offset p))))
          ≡ and_then (and_then f (λ n q. cond (ltb n (2 ^ 32)) (got n q) (fault (BadRange (offset p))))) (λ n q. got (unzigzag n) q)
      go (got n q) = in_32 n q p (ltb n (2 ^ 32)) refl
      go (fault why) = refl

  pub int32_got : {n q : ℕ} → uint32_at s p ≡ got n q → int32_at s p ≡ got (unzigzag n) q
  int32_got e = int32_zigzag ∙ rw e

  pub int32_fault : {why : Refusal} → uint32_at s p ≡ fault why → int32_at s p ≡ fault why
  int32_fault e = int32_zigzag ∙ rw e

  pub uint32_got : {n q : ℕ} → uvarint_at s p ≡ got n q → n ≤ 4294967295 → uint32_at s p ≡ got n q
  unfolding uint32_at
  uint32_got {n} {q} h l = rw (h, lt-ltb n (2 ^ 32) (omega arith))

  pub uint32_bad : {n q : ℕ} → uvarint_at s p ≡ got n q → 4294967295 < n → uint32_at s p ≡ fault (BadRange (offset p))
  unfolding uint32_at
  uint32_bad {n} {q} h l = rw (h, le-ltb n (2 ^ 32) (omega arith))

  pub uint32_fault : {why : Refusal} → uvarint_at s p ≡ fault why → uint32_at s p ≡ fault why
  unfolding uint32_at
  uint32_fault h = rw h

  -- what was read has 32 bits
  pub int32_fits : {x : ℤ} {q : ℕ} → int32_at s p ≡ got x q → mag x < 2 ^ 31
  unfolding int32_at
  int32_fits {x} {q} e = go (varint_at s p) e
    where
      one : (y : ℤ) (r : ℕ) (t : Bool) → ltb (mag y) (2 ^ 31) ≡ t → cond t (got y r) (fault (BadRange (offset p))) ≡ got x q → mag x < 2 ^ 31
      one y r true h k = let z : y ≡ x = cc in rw (← z) (ltb-true (mag y) (2 ^ 31) h)
      one y r false h k = never cc

      go : (f : Field ℤ) → and_then f (λ y r. cond (ltb (mag y) (2 ^ 31)) (got y r) (fault (BadRange (offset p)))) ≡ got x q → mag x < 2 ^ 31
      go (got y r) k = one y r (ltb (mag y) (2 ^ 31)) refl k
      go (fault why) k = never cc

  -- ---- by the bucket kind

  pub count-whole : (k : BucketKind) → k ≡ Whole → number_read (uvarint_at s p) ≡ number_read (count_at k s p)
  unfolding count_at
  count-whole k e = rw e

  pub count_float : (k : BucketKind) → k ≡ Float → number_read (fixed_at s p) ≡ number_read (count_at k s p)
  unfolding count_at
  count_float k e = rw e

  -- a bucket is a count, read as the kind has it
  bucket_counted : (k : BucketKind) → bucket_at k s p ≡ and_then (count_at k s p) (λ n q. got (bucket_of k n) q)
  unfolding bucket_at count_at
  bucket_counted Whole = delta_uvarint s p
  bucket_counted Float = go (fixed_at s p)
    where
      go : (f : Field ℕ) → f ≡ and_then f (λ n q. got n q)
      go (got n q) = refl
      go (fault why) = refl

  pub bucket_got : (k : BucketKind) {n q : ℕ} → count_at k s p ≡ got n q
      → bucket.Found (bucket_of k n) (offset q) ≡ answer_bucket (bucket_at k s p)
  bucket_got k e = rw (bucket_counted k, e)

  pub bucket_fault : (k : BucketKind) {why : Refusal} → count_at k s p ≡ fault why
      → bucket.Refused why ≡ answer_bucket (bucket_at k s p)
  bucket_fault k e = rw (bucket_counted k, e)

  pub bucket_ends : (k : BucketKind) → end_of (count_at k s p) ≡ end_of (bucket_at k s p)
  bucket_ends k = sym (ap end_of (bucket_counted k) ∙ end-one (count_at k s p) (λ n q. bucket_of k n))

  -- ---- a span

  pub span_1 : {why : Refusal} → int32_at s p ≡ fault why → span.Refused why ≡ answer_span (span_at s p)
  unfolding span_at
  span_1 h = rw h

  pub span_2 : {x : ℤ} {q : ℕ} {why : Refusal} → int32_at s p ≡ got x q → uint32_at s q ≡ fault why → span.Refused why ≡ answer_span (span_at s p)
  unfolding span_at
  span_2 h i = rw (h, i)

  pub span-all : {x : ℤ} {q n r : ℕ} → int32_at s p ≡ got x q → uint32_at s q ≡ got n r → span.Found x n (offset r) ≡ answer_span (span_at s p)
  unfolding span_at
  span-all h i = rw (h, i)

-- ---- what an answer says of the reading

pub int_got : (f : Field ℤ) (r : Int32Read) {x : ℤ} {q : ℕ} → r ≡ int32_read f → r ≡ int.Got x q → f ≡ got x q
int_got (got m p) r {x} {q} e g = let v : ◌≡◌ {A = ℤ × ℕ} (m, p) (x, q) = cc in ap (λ (w : ℤ × ℕ). got w.0 w.1) v
int_got (fault w) r e g = never cc

pub int_fault : (f : Field ℤ) (r : Int32Read) {why : Refusal} → r ≡ int32_read f → r ≡ int.Fault why → f ≡ fault why
int_fault (got m p) r e g = never cc
int_fault (fault w) r e g = cc
