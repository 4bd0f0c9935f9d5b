-- The loop that fills the list: the rows that are left make of it what all rows are to make of it.
-- Assumes nothing.
use Rattle.std.specs.Prelude.{◌≡◌, List, ℕ, suc, ◌+◌, ◌-◌, ◌≤◌, ◌<◌, length, set}
use Rattle.std.proofs.Common.{ap, ◌∙◌, arith, length-set}
use Rattle.body_samples.specs.declared.Sample.{Sample}
use Rattle.body_samples.specs.Rows.{row_at, fill_with}

-- after i of `count` rows of the body s, of the list l₀: the list is l, and the next row is at p
pub record Filling (s : List ℕ) (count : ℕ) (l₀ : List Sample) (p i : ℕ) (l : List Sample) : Type 0 where
  pub within : i ≤ count
  pub room : count ≤ length l
  pub same : fill_with (count - i) p s i l ≡ fill_with count 1 s 0 l₀

-- no row yet
pub filling : (s : List ℕ) (count : ℕ) (l : List Sample) → count ≤ length l → Filling s count l 1 0 l
filling s count l h = record { within = omega arith; room = h; same = ap (λ (n : ℕ). fill_with n 1 s 0 l) (omega arith) }

-- one row more
pub row_filled : (s : List ℕ) (count : ℕ) (l₀ : List Sample) (p i : ℕ) (l : List Sample) → Filling s count l₀ p i l → i < count
    → Filling s count l₀ (row_at s p).next (i + 1) (set l i (row_at s p).sample)
unfolding fill_with
row_filled s count l₀ p i l f h =
    let left : count - i ≡ suc (count - (i + 1)) = omega arith in
    record {
      within = omega arith;
      room = rw (length-set l i (row_at s p).sample) f.room;
      same = ap (λ (j : ℕ). fill_with (count - (i + 1)) (row_at s p).next s j (set l i (row_at s p).sample)) (omega arith)
          ∙ (rw left at f.same);
    }

-- none left
pub all_filled : (s : List ℕ) (count : ℕ) (l₀ : List Sample) (p i : ℕ) (l : List Sample) → Filling s count l₀ p i l → count ≤ i
    → l ≡ fill_with count 1 s 0 l₀
unfolding fill_with
all_filled s count l₀ p i l f h = let none : count - i ≡ 0 = omega arith in rw none at f.same
