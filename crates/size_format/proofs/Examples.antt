-- The worst lists (FORMAT 20, its table), for records of any bytes: the bound is reached, and so are
-- four fragments.
-- Assumes nothing.
use Rattle.std.specs.Prelude.{◌≡◌, cond, List, [], ◌∷◌, ℕ, suc, ◌+◌, ◌*◌, ◌-◌, ◌/◌, length, ltb}
use Rattle.std.proofs.Common.{arith}
use Rattle.segment_format.specs.Reading.{left}
use Rattle.segment_format.specs.Writing.{fragments, place_after, next_place}
use Rattle.segment_format.specs.Calls.{writer, final_place}
use Rattle.segment_format.specs.Claims.{Fits}
use Rattle.size_format.specs.Results.PagesAnswer.{Pages}
use Rattle.size_format.specs.Size.{total, size_for, pages_of, pages_for}
use Rattle.size_format.proofs.Laws.{fragments-number, place_from, fits-place}

-- the place after a record of n bytes at place p, and the next place, by numbers alone
abbrev end_by : ℕ → ℕ → ℕ
end_by p n = p + n + 7 * suc ((n - (left p - 7) + 32760) / 32761)

abbrev next_by : ℕ → ℕ → ℕ
next_by p n = cond (ltb (left (end_by p n)) 7) (end_by p n + left (end_by p n)) (end_by p n)

next-by : (p n : ℕ) (d : List ℕ) → length d ≡ n → next_place p d ≡ next_by p n
unfolding next_place place_after
next-by p n d e = rw (fragments-number p d, e)

-- at a place with 7 bytes left the longest record has four fragments
pub four-fragments : (d : List ℕ) → length d ≡ 65536 → length (fragments 32761 d) ≡ 4
four-fragments d e = rw (fragments-number 32761 d, e)

module _ (a b c : List ℕ) where
  -- records that leave 7 bytes
  seven-left : length a ≡ 32754 → length b ≡ 32754 → length c ≡ 32754 → place_from 0 (a ∷ b ∷ c ∷ []) ≡ 98297
  unfolding place_from
  seven-left ea eb ec = rw (next-by 0 32754 a ea, next-by 32761 32754 b eb, next-by 65529 32754 c ec)

  -- and records that leave 6, which are filler
  pub six_left : length a ≡ 32755 → length b ≡ 32755 → length c ≡ 32755 → place_from 0 (a ∷ b ∷ c ∷ []) ≡ 98304
  unfolding place_from
  six_left ea eb ec = rw (next-by 0 32755 a ea, next-by 32768 32755 b eb, next-by 65536 32755 c ec)

  -- with 7 bytes left each time the bound is reached
  pub reached : (sum : ℕ → List ℕ → ℕ) (s : List ℕ)
      → length a ≡ 32754 → length b ≡ 32754 → length c ≡ 32754 → Fits (writer sum) s 0 (a ∷ b ∷ c ∷ [])
      → final_place (writer sum) s 0 (a ∷ b ∷ c ∷ [])
      ≡ total (a ∷ b ∷ c ∷ []) + 7 * 3 + 7 * (final_place (writer sum) s 0 (a ∷ b ∷ c ∷ []) / 32768)
  unfolding total
  reached sum s ea eb ec f = omega (arith, fits-place sum (a ∷ b ∷ c ∷ []) s 0 f, seven-left ea eb ec)

-- records that fill their pages are told one page more than they take
pub one_more : (a b : List ℕ) → length a ≡ 32761 → length b ≡ 32761
    → (place_from 0 (a ∷ b ∷ []) ≡ 65536) × (pages_for 2 (total (a ∷ b ∷ [])) ≡ Pages 3)
unfolding place_from total pages_for size_for pages_of
one_more a b ea eb = (rw (next-by 0 32761 a ea, next-by 32768 32761 b eb), rw (ea, eb))
