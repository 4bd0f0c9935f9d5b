-- The outcome of an addition, from the size of the entry, the gate's answer, and what was written.
-- Assumes nothing.
use Rattle.std.specs.Prelude.{◌≡◌, refl, Bool, true, false, cond, not, List, ℕ, ◌+◌, ◌≤◌, ◌<◌, eqb, length, Option, is_none, unwrap_or, IsErrAnd}
use Rattle.std.proofs.Common.{sym, ap, ◌∙◌, arith, lt-ltb}
use Rattle.wal_types.specs.declared.Refusal.{Refusal}
use Rattle.wal_types.specs.declared.Refusal.TheVariants.{BadPlace, WrongKind}
use Rattle.wal_types.specs.Terms.{offset}
use Rattle.body_format.specs.Entries.{Entry, type_byte, body_type_for}
use Rattle.body_format.specs.Building.{Outcome, used, refused, bad_state, add, add_bytes, entry_bytes}
use Rattle.body_format.proofs.Laws.Additions.{accepted}
use Rattle.wal_types.proofs.Passing.{passed_on}
use Rattle.body_builder.specs.Results.Added.{Added, Next, Refused}
use Rattle.body_builder.specs.Results.Gate.{Gate}
use Rattle.body_builder.specs.Results.Gate.{Open, Shut}
use Rattle.body_builder.specs.Answers.{added_of}
use Rattle.body_builder.specs.Sizes.{gate_for, fitting, decided}
use Rattle.body_builder.specs.Laws.Putting.{Put}

-- a size n for the true size m: exact, or both are above the limit
pub data Sized (n m : ℕ) : Type 0 where
  exact : n ≡ m → Sized n m
  above : 65536 < n → 65536 < m → Sized n m

-- two sizes that are added up
pub both_sized : {n m n' m' : ℕ} → Sized n m → Sized n' m' → Sized (n + n') (m + m')
both_sized (exact e) (exact f) = exact (omega (arith, e, f))
both_sized (exact e) (above a b) = above (omega arith) (omega arith)
both_sized (above a b) (exact f) = above (omega arith) (omega arith)
both_sized (above a b) (above c d) = above (omega arith) (omega arith)

-- the size that the code has for an entry of m bytes, or none where its list is bad
abbrev pub Measures : Option ℕ → Bool → ℕ → Type 0
Measures size bad m = (is_none size ≡ bad) × (bad ≡ false → Sized (unwrap_or size 0) m)

-- ---- the outcome of adding the entry e, whose size is n

fitting-same : (b : List ℕ) (u n m : ℕ) → Sized n m → fitting b u n ≡ fitting b u m
fitting-same b u n m (exact e) = ap (fitting b u) e
fitting-same b u n m (above x y) = rw (lt-ltb 65536 (u + n) (omega arith), lt-ltb 65536 (u + m) (omega arith))

decided_is : (b : List ℕ) (t u : ℕ) (e : Entry) (bad : Bool) (n : ℕ) → (bad ≡ false → Sized n (length (entry_bytes b u e)))
    → decided b t u (type_byte (body_type_for e)) bad n ≡ add b t u e bad
unfolding decided add
decided_is b t u e true n h = refl
decided_is b t u e false n h =
    ap (λ (o : Outcome). cond (bad_state b t u) (refused BadPlace) (cond (not (eqb t (type_byte (body_type_for e)))) (refused WrongKind) o))
    (fitting-same b u n (length (entry_bytes b u e)) (h refl))

pub record Opened (b : List ℕ) (t u : ℕ) (e : Entry) (bad : Bool) : Type 0 where
  pub list : bad ≡ false
  pub room : u + length (entry_bytes b u e) ≤ length b
  pub is : add b t u e bad ≡ used (u + length (entry_bytes b u e))

module _ (b : List ℕ) (t u : ℕ) (e : Entry) (bad : Bool) (n : ℕ) (size : bad ≡ false → Sized n (length (entry_bytes b u e)))
    (r : Gate) (gate : r ≡ gate_for (decided b t u (type_byte (body_type_for e)) bad n)) where
  gate_add : r ≡ gate_for (add b t u e bad)
  gate_add = gate ∙ ap gate_for (decided_is b t u e bad n size)

  pub opened : r ≡ Open → Opened b t u e bad
  opened h = go (add b t u e bad) refl (sym gate_add ∙ h)
    where
      go : (o : Outcome) → add b t u e bad ≡ o → gate_for o ≡ Open → Opened b t u e bad
      go (used m) a k =
          let w = accepted b t u e bad m a in
          record { list = w.list; room = omega (arith, w.size, w.room); is = a ∙ ap used w.size }
      go (refused why) a k = let z : ◌≡◌ {A = ℕ} 0 1 = cc in absurd (omega arith)

  pub shut : {why : Refusal} → r ≡ Shut why → (Refused why ≡ added_of t (add b t u e bad)) × (b ≡ add_bytes (add b t u e bad) b u e)
  shut {why} h = go (add b t u e bad) refl (sym gate_add ∙ h)
    where
      go : (o : Outcome) → add b t u e bad ≡ o → gate_for o ≡ Shut why → (Refused why ≡ added_of t o) × (b ≡ add_bytes o b u e)
      go (used m) a k = let z : ◌≡◌ {A = ℕ} 0 1 = cc in absurd (omega arith)
      go (refused w) a k = (cc, refl)

-- the same by what the code has for the size
module _ (b : List ℕ) (t u : ℕ) (e : Entry) (bad : Bool) (size : Option ℕ) (m : Measures size bad (length (entry_bytes b u e))) (r : Gate)
    (gate : r ≡ gate_for (decided b t u (type_byte (body_type_for e)) (is_none size) (unwrap_or size 0))) where
  by_list : r ≡ gate_for (decided b t u (type_byte (body_type_for e)) bad (unwrap_or size 0))
  by_list = rw m.0 at gate

  pub admitted : r ≡ Open → Opened b t u e bad
  admitted = opened b t u e bad (unwrap_or size 0) m.1 r by_list

  -- what a `?` hands on
  pub turned_away : {why : Refusal} → r ≡ Shut why → (x : Added) → IsErrAnd x (λ y. y ≡ why)
      → (x ≡ added_of t (add b t u e bad)) × (b ≡ add_bytes (add b t u e bad) b u e)
  turned_away {why} h x k =
      let both = shut b t u e bad (unwrap_or size 0) m.1 r by_list h in
      (passed_on x why k ∙ both.0, both.1)

pub finished : (b : List ℕ) (t u : ℕ) (e : Entry) (bad : Bool) (d : List ℕ) (next : ℕ) → Opened b t u e bad → Put b u (entry_bytes b u e) d next
    → (Next (record { tag = t; used = offset next }) ≡ added_of t (add b t u e bad)) × (d ≡ add_bytes (add b t u e bad) b u e)
finished b t u e bad d next o (p, q) = rw o.is (ap (λ (n : ℕ). Next (record { tag = t; used = offset n })) p, q)
