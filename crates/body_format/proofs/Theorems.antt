-- The format's own calls keep what Claims demands.
-- Assumes nothing.
use Rattle.std.proofs.Common.{refl, List, [], ℕ, ◌+◌, ◌≤◌, length, ap, arith}
use Rattle.std.proofs.Math.Seq.{length-sets}
use Rattle.body_format.specs.Building.{entry_bytes, start, start_bytes, add_bytes}
use Rattle.body_format.specs.Calls.{entry_for, list_is_bad, body_calls}
use Rattle.body_format.specs.Claims.{Demand1, Demand2}
use Rattle.body_format.proofs.Laws.Additions.{accepted, start-bytes, sets-before, sets-after}
use Rattle.body_format.proofs.Laws.Walks.{entries-walk}
use Rattle.body_format.proofs.Laws.Built.{body_checks, body-walks, started, built}

-- the caller's bytes
pub demand1 : Demand1 body_calls
demand1 = record {
  start-refused = λ b t why e. ap (λ o. start_bytes o b t) e;
  add-refused = λ b t u a why e. ap (λ o. add_bytes o b u (entry_for a)) e;
  start_byte = λ b t n e. (start-bytes b t n e).1;
  within = λ b t u n a e.
      let x : List ℕ = entry_bytes b u (entry_for a) in
      let w = accepted b t u (entry_for a) (list_is_bad a) n e in
      let room : u + length x ≤ length b = omega arith in
      rw (e, w.size) (omega arith, room, length-sets b u x, sets-before b x u room, sets-after b x u room);
}

-- refusals, counts, walks, and reading back what was built
pub demand2 : Demand2 body_calls
demand2 = record {
  starts = λ b t. refl;
  adds = λ b t u a. refl;
  counts = λ s. refl;
  reads = λ s p. refl;
  strings = λ s p. refl;
  histograms = λ s p. refl;
  spans = λ s p. refl;
  buckets = λ s p. refl;
  walks = λ b s k es p h e. entries-walk b s k h es p e;
  back = λ b t xs h e.
      let s = started b t e in
      let y = built t s.0 s.1 xs (start_bytes (start b t) b t) 1 [] h s.2 s.3 in
      (body_checks s.0 _ _ y, body-walks s.0 _ _ y);
}
