-- Calls that look right and are wrong: none of them keeps the claim, whatever the call beside it is,
-- for every checksum.
-- Assumes nothing.
use Rattle.std.proofs.Math.Path.{◌≡◌, refl}
use Rattle.std.specs.Prelude.{List, [], ◌∷◌, ℕ, zero, suc, ◌+◌, ◌*◌, ◌-◌, ◌%◌, ◌^◌, ◌≤◌, length, replicate}
use Rattle.std.proofs.Common.{arith}
use Rattle.std.proofs.lemmas.List.{length-replicate}
use Rattle.wal_types.specs.declared.Refusal.TheVariants.{NoRoom}
use Rattle.wal_types.specs.Terms.{offset}
use Rattle.segment_format.specs.Results.WriteAnswer.{WriteAnswer}
use Rattle.segment_format.specs.Results.WriteAnswer.{Next, Refused as WriteRefused}
use Rattle.segment_format.specs.Reading.{left}
use Rattle.segment_format.specs.Writing.{judge, split, fragments, place_after, next_place, accepted}
use Rattle.segment_format.specs.Calls.{Writer, writer, final_place}
use Rattle.segment_format.proofs.Laws.Room.{accepted-room}
use Rattle.size_format.specs.Results.PagesAnswer.{PagesAnswer}
use Rattle.size_format.specs.Results.PagesAnswer.{Pages, Refused}
use Rattle.size_format.specs.Size.{total, size_for, pages_of, pages_for, SizeCalls}
use Rattle.size_format.specs.Claims.{HeldIn, Sizes}

abbrev calls : Writer → (ℕ → ℕ → PagesAnswer) → SizeCalls
calls W P = record { write = W; pages = P }

-- ---- the stand-ins

-- a writer that wastes a page: after each record it goes on at the next one
abbrev next_page : WriteAnswer → WriteAnswer
next_page (Next q) = Next (offset (q.0 + left q.0))
next_page (WriteRefused why) = WriteRefused why

abbrev pub wastes_page : (ℕ → List ℕ → ℕ) → Writer
wastes_page sum s p d = record { answer = next_page (writer sum s p d).answer; slice = (writer sum s p d).slice }

-- a writer that always says NoRoom
abbrev pub always_no_room : Writer
always_no_room s p d = record { answer = WriteRefused (NoRoom (offset p)); slice = s }

-- pages that are one too few, where there is more than one
abbrev one_less : PagesAnswer → PagesAnswer
one_less (Pages zero) = Pages zero
one_less (Pages (suc zero)) = Pages 1
one_less (Pages (suc (suc k))) = Pages (suc k)
one_less (Refused why) = Refused why

abbrev pub too_few : ℕ → ℕ → PagesAnswer
too_few n bytes = one_less (pages_for n bytes)

-- always the pages of the longest segment
abbrev pub always4096 : ℕ → ℕ → PagesAnswer
always4096 n bytes = Pages 4096

-- always refused
abbrev pub always_refused : ℕ → ℕ → PagesAnswer
always_refused n bytes = Refused (NoRoom (offset 0))

-- a sum that is taken modulo 2^64
abbrev pub wraps : ℕ → ℕ → PagesAnswer
wraps n bytes = pages_for 1 ((bytes + 7 * (n - 1)) % 2 ^ 64)

-- ---- what the proofs write: a record of one byte, and one of a byte more than a page holds

page : List ℕ
page = replicate 32768 0

page-length : length page ≡ 32768
unfolding page
page-length = length-replicate {A = ℕ} 32768 0

long : List ℕ
long = replicate 32762 9

long-length : length long ≡ 32762
unfolding long
long-length = length-replicate {A = ℕ} 32762 9

taken : judge (length page) 0 1 ≡ accepted
unfolding judge
taken = rw page-length

module _ (sum : ℕ → List ℕ → ℕ) where
  pub wastes_page-sizes : (P : ℕ → ℕ → PagesAnswer) → Sizes sum (calls (wastes_page sum) P) → ⊥
  unfolding final_place total next_place place_after fragments split
  wastes_page-sizes P h =
      let b = h.bound page ((9 ∷ []) ∷ []) (taken, tt) in
      let z : 32768 ≤ 15 = rw taken at b in
      omega arith

  pub always_no_room-sizes : (P : ℕ → ℕ → PagesAnswer) → Sizes sum (calls always_no_room P) → ⊥
  unfolding final_place total
  always_no_room-sizes P h = omega (arith, h.exact page ((9 ∷ []) ∷ []) (taken, tt))

module _ (sum : ℕ → List ℕ → ℕ) (W : Writer) where
  held : HeldIn W page 1 ((9 ∷ []) ∷ [])
  held = record { pages = page-length; fits = (taken, tt) }

  pub too_few-sizes : Sizes sum (calls W too_few) → ⊥
  unfolding total pages_for size_for pages_of
  too_few-sizes h =
      let f = h.enough page (long ∷ []) 1 1 (omega (arith, long-length), omega (arith, long-length), tt) (rw long-length) (omega arith) (omega arith) page-length in
      omega (arith, (accepted-room (length page) 0 (length long) f.0).room, long-length, page-length)

  pub always4096-sizes : Sizes sum (calls W always4096) → ⊥
  unfolding total
  always4096-sizes h = let z = h.close page ((9 ∷ []) ∷ []) 4096 1 refl held in omega arith

  pub always_refused-sizes : Sizes sum (calls W always_refused) → ⊥
  always_refused-sizes h = let z = h.full page ((9 ∷ []) ∷ []) (NoRoom (offset 0)) 1 refl held in omega arith

  pub wraps-sizes : Sizes sum (calls W wraps) → ⊥
  unfolding pages_for size_for pages_of
  wraps-sizes h = let e = h.answers 2 (2 ^ 64 - 1) in let z : ◌≡◌ {A = ℕ} 0 1 = cc in omega arith
