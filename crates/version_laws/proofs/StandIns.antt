-- Versions that are not apart: a version 2 that sums the data alone, as version 1 does, and a reader
-- that tries version 1 where version 2 is refused. What was written in version 1 comes out of both.
-- Assumes nothing.
use Rattle.std.proofs.Math.Path.{◌≡◌, ap}
use Rattle.std.specs.Prelude.{Some, Ok, refl, cond, List, [], ◌∷◌, ℕ, zero, ◌≤◌, take, replicate, eqb}
use Rattle.std.proofs.Common.{sym, ◌∙◌, subst, arith}
use Rattle.std.proofs.Math.ListN.{length}
use Rattle.std.proofs.lemmas.List.{length-replicate}
use Rattle.wal_types.specs.declared.Refusal.TheVariants.{BadSum}
use Rattle.wal_types.specs.Refusals.{number_of}
use Rattle.wal_types.specs.Terms.{offset}
use Rattle.segment_format.specs.Results.ReadAnswer.{ReadAnswer}
use Rattle.segment_format.specs.Results.ReadAnswer.{End, Refused}
use Rattle.segment_format.specs.Writing.{accepted, judge}
use Rattle.segment_format.specs.Calls.{Reader, reader, writer, Delivered, NoRecord, Reads, Gives, final_slice, final_place, written, as_written}
use Rattle.segment_format.specs.Calls.Reads.{next, done}
use Rattle.wal_types.specs.declared.Version.TheVariants.{One, Two}
use Rattle.segment_format.specs.Sums.{version_sum}
use Rattle.segment_format.proofs.Theorems.{demand2}
use Rattle.segment_format.proofs.Laws.Reads.{gives_same}
use Rattle.segment_format.proofs.Laws.Writes.{fits-written}
use Rattle.version_laws.specs.Apart.{Refuses}
use Rattle.version_laws.proofs.Theorems.{apart, whole-refused}

-- ---- what the proofs write: a record of one byte, on a page of zeros

page : List ℕ
page = replicate 32768 0

abbrev single : List ℕ
single = 1 ∷ []

length-page : length page ≡ 32768
unfolding page
length-page = length-replicate 32768 zero

fits-page : judge (length page) 0 1 ≡ accepted
unfolding judge
fits-page = rw length-page

module _ (sum : ℕ → List ℕ → ℕ) where
  some_written : written (writer sum) page 0 (single ∷ []) ≡ [] → ⊥
  unfolding as_written
  some_written e =
      let w = fits-written sum (single ∷ []) page 0 (fits-page, tt) in
      let z : ◌≡◌ {A = ℕ} 1 0 = ap length (sym w ∙ e) in
      omega arith

  bytes : List ℕ
  bytes = take (final_place (writer sum) page 0 (single ∷ [])) (final_slice (writer sum) page 0 (single ∷ []))

  -- with its own checksum it comes out
  own_reading : Gives (reader sum) bytes (as_written 0 (single ∷ [])) End
  unfolding bytes
  own_reading = (demand2 sum).back page (single ∷ []) (fits-page, tt)

  -- and a reader that refuses it gives none
  none-given : (R : Reader) → Refuses R (writer sum) → Gives R bytes [] (Refused (BadSum (offset 0)))
  unfolding bytes
  none-given R h = whole-refused sum R h page (single ∷ []) some_written

-- ---- the same checksum in both versions

pub same_sum_refuses : (sum : ℕ → List ℕ → ℕ) → Refuses (reader sum) (writer sum) → ⊥
same_sum_refuses sum h =
    let r = gives_same (reader sum) (bytes sum) [] (as_written 0 (single ∷ [])) (Refused (BadSum (offset 0))) End (none-given sum (reader sum) h) (own_reading sum) in
    let e : Refused (BadSum (offset 0)) ≡ End = r.1 in
    let z : ◌≡◌ {A = ℕ} 0 1 = cc in
    omega arith

-- ---- version 1 where version 2 is refused

abbrev number_for : ReadAnswer → ℕ
number_for (Ok (Some r)) = 0
number_for End = 0
number_for (Refused why) = number_of why

-- BadSum is number 10
abbrev pub falls_back : Reader
falls_back s p b = cond (eqb (number_for (reader (version_sum Two) s p b).answer) 10) (reader (version_sum One) s p b) (reader (version_sum Two) s p b)

only_read : {R : Reader} {s b : List ℕ} {p : ℕ} {end : ReadAnswer} → Reads R s p (b ∷ []) [] end → (R s p b).answer ≡ end
only_read (done e k) = e

first_read : {R : Reader} {s b : List ℕ} {bs : List (List ℕ)} {p : ℕ} {w : Delivered} {ws : List Delivered} {end : ReadAnswer}
    → Reads R s p (b ∷ bs) (w ∷ ws) end → NoRecord (R s p b).answer → ⊥
first_read (next e k) n = subst NoRecord e n

blank : List ℕ
blank = replicate 65536 0

pub falls_back_refuses : Refuses falls_back (writer (version_sum One)) → ⊥
unfolding blank as_written
falls_back_refuses h =
    let s : List ℕ = bytes (version_sum One) in
    let full : 65536 ≤ length blank = omega (arith, length-replicate 65536 zero) in
    let two : (reader (version_sum Two) s 0 blank).answer ≡ Refused (BadSum (offset 0)) = only_read (none-given (version_sum One) (reader (version_sum Two)) apart.forth (blank ∷ []) refl (full, tt)) in
    let falls : (falls_back s 0 blank).answer ≡ (reader (version_sum One) s 0 blank).answer =
    ap (λ (a : ReadAnswer). (cond (eqb (number_for a) 10) (reader (version_sum One) s 0 blank) (reader (version_sum Two) s 0 blank)).answer) two in
    let none : (falls_back s 0 blank).answer ≡ Refused (BadSum (offset 0)) = only_read (none-given (version_sum One) falls_back h (blank ∷ []) refl (full, tt)) in
    first_read (own_reading (version_sum One) (blank ∷ blank ∷ []) refl (full, (full, tt))) (subst NoRecord (sym none ∙ falls) tt)
