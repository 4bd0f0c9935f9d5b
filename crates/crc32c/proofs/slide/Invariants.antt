-- The first i bytes are moved, the others as they were.
use Rattle.std.proofs.Common.{◌≡◌, ℕ, ◌≤◌, ◌<◌, ◌+◌, get_or}
use Rattle.crc32c.proofs.slide.Given as goal

abbrev pub invariant-loop-i : goal.invariant-loop-i
invariant-loop-i l = record {
  moved : (k : ℕ) → k < l.i → get_or l.y k 0 ≡ get_or l.initial.y (l.n + k) 0;
  others : (k : ℕ) → l.i ≤ k → get_or l.y k 0 ≡ get_or l.initial.y k 0;
}
