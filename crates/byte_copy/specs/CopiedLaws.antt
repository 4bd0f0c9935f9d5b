-- Laws of copying: where both slices are long enough, and where one is not; of bytes stored one
-- after another; and of a part of a list.
-- Assumes nothing.
use Rattle.std.specs.Prelude.{ℕ, suc, ◌+◌, ◌≤◌, ◌<◌, Bool, List, [], ◌∷◌, ◌++◌, ◌≡◌, length, take, drop, set}
use Rattle.std.proofs.Math.Bool.{true, false}
use Rattle.std.proofs.Math.Path.{refl}
use Rattle.std.proofs.Common.{sym, ◌∙◌, append_assoc, add-zero, arith, length-drop, length-take-le, le-leb}
use Rattle.std.proofs.Math.Seq.{drop-drop}
use borrow.Author.Tests.{lt-leb}
use Rattle.std.proofs.Math.Dec.{leb}
use Rattle.std.proofs.lemmas.List.Edits.{sets, sets-eq}
use Rattle.byte_copy.specs.Copied.{copied}

module _ (s : List ℕ) (from n : ℕ) (t : List ℕ) (at : ℕ) where
  -- what a caller that has checked the lengths cites
  pub copied-fits : from + n ≤ length s → at + n ≤ length t → copied s from n t at ≡ sets t at (take n (drop from s))
  unfolding copied
  copied-fits h k = rw (le-leb (from + n) (length s) h, le-leb (at + n) (length t) k, copied)

  pub copied-short : length s < from + n → copied s from n t at ≡ t
  unfolding copied
  copied-short h = rw (lt-leb (from + n) (length s) h, copied)

  pub copied-full : length t < at + n → copied s from n t at ≡ t
  unfolding copied
  copied-full h = go (leb (from + n) (length s)) refl
    where
      go : (t1 : Bool) → leb (from + n) (length s) ≡ t1 → copied s from n t at ≡ t
      go true e = rw (e, lt-leb (at + n) (length t) h, copied)
      go false e = rw (e, copied)

-- one list after another
pub sets-append : (a b s : List ℕ) (i : ℕ) → sets (sets s i a) (i + length a) b ≡ sets s i (a ++ b)
sets-append [] b s i = rw add-zero
sets-append (x ∷ a) b s i = let e : i + suc (length a) ≡ suc i + length a = omega arith in rw e (sets-append a b (set s i x) (suc i))

-- what a slice holds after its k elements from `at` on became b
pub part_stored : (d b : List ℕ) (at k : ℕ) → length b ≡ k → at + k ≤ length d → take at d ++ (b ++ drop k (drop at d)) ≡ sets d at b
part_stored d b at k e h = rw (drop-drop k at d, ← e) (sym (sets-eq b d at (omega arith) ∙ append_assoc (take at d) b (drop (at + length b) d)))

-- the length of a part of a list
pub part_length : (s : List ℕ) (from n : ℕ) → from + n ≤ length s → length (take n (drop from s)) ≡ n
part_length s from n h = length-take-le n (drop from s) (omega (arith, length-drop from s))
