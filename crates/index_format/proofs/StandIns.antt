-- Calls that look right and are wrong: none of them keeps the claim. An index that is always empty,
-- one that covers more than was read, and a check that accepts a longer slice.
-- Assumes nothing.
use Rattle.std.specs.Prelude.{◌≡◌, refl, List, [], ◌∷◌, ◌++◌, ℕ, ◌+◌, ◌-◌, ◌≤◌, length, take, replicate}
use Rattle.std.proofs.Common.{sym, ap, ◌∙◌, arith, length-append, take_at}
use Rattle.big_endian.specs.Fixed.{be4, read_be2, read_be4}
use Rattle.crc32c_format.specs.Crc.{crc32c, register, bit_steps, bit_step}
use Rattle.segment_format.specs.Reading.{window, zeros, sized, filled, typed, step, steps, run, find}
use Rattle.segment_format.specs.Calls.{Delivered, read_from}
use Rattle.wal_types.specs.declared.Version.TheVariants.{One}
use Rattle.segment_format.specs.Sums.{version_sum}
use Rattle.index_format.specs.Results.CheckAnswer.{Accepted}
use Rattle.index_format.specs.Results.IndexAnswer.{IndexAnswer}
use Rattle.index_format.specs.Results.IndexAnswer.{Length, Refused}
use Rattle.index_format.specs.Index.{rows_of, index_of, records_from}
use Rattle.index_format.specs.Calls.{IndexResult, IndexCalls, put, builder, checker, extender, look_up}
use Rattle.index_format.specs.Claims.{IndexAt, Indexes}
use Rattle.index_format.proofs.Theorems.{indexes}
use Rattle.index_format.proofs.Laws.Layout.{length-index}
use Rattle.index_format.proofs.Laws.Records.{records-given}

-- ---- a segment of one record, the byte 1

one : List ℕ
one = 1 ∷ 0 ∷ 1 ∷ (be4 (crc32c (1 ∷ [])) ++ (1 ∷ []))

one-record : length (records_from (version_sum One) one 0) ≡ 1
unfolding one records_from read_from find run steps step typed filled sized zeros window be4 read_be2 read_be4 crc32c register bit_steps bit_step
one-record = refl

one-length : length one ≡ 8
unfolding one be4
one-length = refl

-- what the claim says that building its index leaves: an index of 20 bytes
built-one : (C : IndexCalls) → Indexes (version_sum One) C → (C.build one (replicate 20 0)).answer ≡ Length 20
unfolding put
built-one C h =
    let small : length one ≤ 134217728 = omega (arith, one-length) in
    let n : length (index_of (records_from (version_sum One) one 0) (length one)) ≡ 20 = omega (arith, length-index (records_from (version_sum One) one 0) (length one), one-record) in
    ap (λ (r : IndexResult). r.answer) (h.builds one (replicate 20 0) (records_from (version_sum One) one 0) _ small (records-given (version_sum One) one small))
    ∙ rw n

-- an index that is always empty
abbrev pub always_empty : IndexCalls
always_empty = record {
  build = λ s b. put (index_of [] (length s)) b;
  check = checker (version_sum One);
  extend = extender (version_sum One);
  row = look_up;
}

-- one that covers more than was read: the last byte
abbrev pub covers_more : IndexCalls
covers_more = record {
  build = λ s b. put (index_of (records_from (version_sum One) (take (length s - 1) s) 0) (length s)) b;
  check = checker (version_sum One);
  extend = extender (version_sum One);
  row = look_up;
}

-- a check that accepts a slice that is a byte longer
abbrev pub accepts_longer : (ℕ → List ℕ → ℕ) → IndexCalls
accepts_longer sum = record {
  build = builder sum;
  check = λ s x. checker sum s (take (length x - 1) x);
  extend = extender sum;
  row = look_up;
}

twelve : IndexAnswer → ℕ
twelve (Length n) = n
twelve (Refused why) = 0

-- both give an index of 12 bytes for the segment of one record
empty-index : (put (index_of [] (length one)) (replicate 20 0)).answer ≡ Length 12
unfolding put index_of rows_of be4 one
empty-index = refl

pub always_empty-refused : Indexes (version_sum One) always_empty → ⊥
unfolding twelve
always_empty-refused h =
    let e : ◌≡◌ {A = ℕ} 12 20 = ap twelve (sym empty-index ∙ built-one always_empty h) in
    omega arith

cut_short_lem : records_from (version_sum One) (take (length one - 1) one) 0 ≡ []
unfolding one records_from read_from find run steps step typed filled sized zeros window be4 read_be2 read_be4 crc32c register bit_steps bit_step
cut_short_lem = refl

pub covers_more-refused : Indexes (version_sum One) covers_more → ⊥
unfolding twelve
covers_more-refused h =
    let f : (covers_more.build one (replicate 20 0)).answer ≡ Length 12 = rw cut_short_lem empty-index in
    let e : ◌≡◌ {A = ℕ} 12 20 = ap twelve (sym f ∙ built-one covers_more h) in
    omega arith

-- the index of no bytes, and a byte more
pub accepts_longer-refused : (sum : ℕ → List ℕ → ℕ) → Indexes sum (accepts_longer sum) → ⊥
accepts_longer-refused sum h =
    let ws : List Delivered = records_from sum [] 0 in
    let y : List ℕ = index_of ws 0 in
    let x : List ℕ = y ++ (0 ∷ []) in
    let whole : IndexAt sum [] y (length ws) = record {
      cut = 0;
      inside = omega arith;
      records = ws;
      end = (read_from sum 1 [] 0).end;
      gives = records-given sum [] (omega arith);
      bytes = refl;
      count = refl;
    } in
    let n : length x ≡ length y + 1 = length-append y (0 ∷ []) in
    let cut : take (length x - 1) x ≡ y = take_at y (0 ∷ []) (length x - 1) (omega arith) in
    let accepted : checker sum [] (take (length x - 1) x) ≡ Accepted (length ws) =
    ap (checker sum []) cut ∙ (indexes sum).accepts [] y (length ws) (omega arith) whole in
    let a = h.only [] x (length ws) accepted in
    omega (arith, ap length a.bytes, length-index a.records a.cut, length-index ws 0, a.count)
