-- The format's calls of the two versions are apart; and what that says of a whole segment.
-- Assumes nothing.
use Rattle.std.specs.Prelude.{◌≡◌, List, [], ℕ, ◌/◌, ◌%◌, ◌<◌, ◌≤◌, length, take}
use Rattle.std.proofs.Common.{sym, ◌∙◌, append-nil, arith, length-take}
use Rattle.wal_types.specs.declared.Refusal.TheVariants.{BadSum}
use Rattle.wal_types.specs.Terms.{offset}
use Rattle.wal_types.specs.Sizes.{segment_limit}
use Rattle.segment_format.specs.Results.ReadAnswer.{Refused}
use Rattle.segment_format.specs.Calls.{Reader, writer, segment_calls, Gives, final_slice, final_place, written}
use Rattle.wal_types.specs.declared.Version.TheVariants.{One, Two}
use Rattle.segment_format.specs.Sums.{version_sum}
use Rattle.segment_format.proofs.Theorems.{demand3}
use Rattle.segment_format.proofs.Laws.Writes.{logged, log_limited, all_survive}
use Rattle.version_laws.specs.Apart.{Refuses, Apart}
use Rattle.version_laws.proofs.Laws.Checksums.{three_differ}
use Rattle.version_laws.proofs.Laws.Refusing.{log-refused}

-- the two checksums differ on every fragment
sums_differ : (b : ℕ) (d : List ℕ) → b < 256 → (version_sum One) b d ≡ (version_sum Two) b d → ⊥
sums_differ b d h e = three_differ b (length d / 256 % 256) (length d % 256) d h (omega arith) (omega arith) e

pub apart : Apart (segment_calls (version_sum One)) (segment_calls (version_sum Two))
apart = record {
  first = demand3 (version_sum One);
  second = demand3 (version_sum Two);
  forth = λ s ds c more some small. log-refused (version_sum One) (version_sum Two) sums_differ c more (logged (version_sum One) ds s 0) some small;
  back = λ s ds c more some small. log-refused (version_sum Two) (version_sum One) (λ b d l e. sums_differ b d l (sym e)) c more (logged (version_sum Two) ds s 0) some small;
}

-- of any reader: what was written, uncut and with nothing after it, if it is one record or more
pub whole-refused : (sum : ℕ → List ℕ → ℕ) (R : Reader) → Refuses R (writer sum) → (s : List ℕ) (ds : List (List ℕ))
    → (written (writer sum) s 0 ds ≡ [] → ⊥)
    → Gives R (take (final_place (writer sum) s 0 ds) (final_slice (writer sum) s 0 ds)) [] (Refused (BadSum (offset 0)))
whole-refused sum R h s ds some =
    let q : ℕ = final_place (writer sum) s 0 ds in
    let x : List ℕ = take q (final_slice (writer sum) s 0 ds) in
    let k = logged sum ds s 0 in
    let small : length x ≤ segment_limit = omega (arith, length-take q (final_slice (writer sum) s 0 ds), log_limited sum k (omega arith)) in
    rw append-nil at (h s ds q [] (λ e. some (sym (all_survive sum q k (omega arith)).0 ∙ e)) (rw append-nil small))
