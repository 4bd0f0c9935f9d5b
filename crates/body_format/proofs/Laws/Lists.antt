-- Laws of the list of entries: it steps without a count of steps, ends at the body's end, and grows
-- by one entry where the bytes of one follow the body.
-- Assumes nothing.
use Rattle.std.proofs.Common.{◌≡◌, Bool, true, false, cond, List, [], ◌∷◌, ◌++◌, length, eqb, refl, ℕ, zero, suc, ◌+◌, ◌≤◌, ◌<◌, sym, ap, ◌∙◌, arith, eq-eqb, ne_eqb, eqb-true, length-append}
use Rattle.std.proofs.lemmas.Bool.{eqb-false}
use Rattle.body_format.specs.Fields.{Field, got, fault, and_then, fixed_at}
use Rattle.body_format.specs.Entries.{BodyType, has_rows, Entry, Placed, entry_at, entries_from, first_at, entries}
use Rattle.body_format.proofs.Laws.Fields.{fixed_got}
use Rattle.body_format.proofs.Laws.Bounds.{Every, every_then, every_both, fixed_ahead, entry_ahead}
use Rattle.body_format.proofs.Laws.Kept.{entry_kept}

-- two ways to go on that agree on what x gives
pub then_cong : {A B : Type 0} (P : A → ℕ → Type 0) (x : Field A) (f g : A → ℕ → Field B)
    → Every P x → ((a : A) (q : ℕ) → P a q → f a q ≡ g a q) → and_then x f ≡ and_then x g
then_cong P (got a q) f g h k = k a q h
then_cong P (fault why) f g h k = refl

module _ (k : BodyType) (s : List ℕ) where
  -- an entry, and then at most n more
  abbrev pub entry_then : ℕ → ℕ → Field (List Entry)
  entry_then n p = and_then (entry_at k s p) (λ e q. and_then (entries_from n k s q) (λ es r. got (e.entry ∷ es) r))

  -- at the end of the body there are none
  pub entries-end : (n p : ℕ) → p ≡ length s → entries_from n k s p ≡ got [] p
  unfolding entries_from
  entries-end zero p h = refl
  entries-end (suc n) p h = rw (eq-eqb p (length s) h)

  -- before it one step
  pub entries_suc : (n p : ℕ) → p < length s → entries_from (suc n) k s p ≡ entry_then n p
  unfolding entries_from
  entries_suc n p h = rw (ne_eqb p (length s) (omega arith))

  -- steps that reach the end are enough, however many they are
  pub entries_enough : (n m p : ℕ) → p ≤ length s → length s ≤ n + p → length s ≤ m + p → entries_from n k s p ≡ entries_from m k s p
  entries_enough zero m p h hn hm = entries-end zero p (omega arith) ∙ sym (entries-end m p (omega arith))
  entries_enough (suc n) zero p h hn hm = entries-end (suc n) p (omega arith) ∙ sym (entries-end zero p (omega arith))
  entries_enough (suc n) (suc m) p h hn hm = go (eqb p (length s)) refl (entries_enough n m)
    where
      go : (t : Bool) → eqb p (length s) ≡ t
          → ((q : ℕ) → q ≤ length s → length s ≤ n + q → length s ≤ m + q → entries_from n k s q ≡ entries_from m k s q)
          → entries_from (suc n) k s p ≡ entries_from (suc m) k s p
      go true e ih = entries-end (suc n) p (eqb-true p (length s) e) ∙ sym (entries-end (suc m) p (eqb-true p (length s) e))
      go false e ih =
          let ne : p ≡ length s → ⊥ = eqb-false p (length s) e in
          entries_suc n p (omega arith)
          ∙ then_cong (λ e q. (p + 1 ≤ q) × (q ≤ length s)) (entry_at k s p) _ _ (entry_ahead s k p)
          (λ e q l. ap (λ x. and_then x (λ es r. got (e.entry ∷ es) r)) (ih q l.1 (omega arith) (omega arith)))
          ∙ sym (entries_suc m p (omega arith))

  -- a list of entries ends at the body's end
  pub entries_last : (n p : ℕ) → p ≤ length s → length s ≤ n + p → Every (λ es r. r ≡ length s) (entries_from n k s p)
  entries_last zero p h enough = rw (entries-end zero p (omega arith)) (omega arith)
  entries_last (suc n) p h enough = go (eqb p (length s)) refl (entries_last n)
    where
      go : (t : Bool) → eqb p (length s) ≡ t
          → ((q : ℕ) → q ≤ length s → length s ≤ n + q → Every (λ es r. r ≡ length s) (entries_from n k s q))
          → Every (λ es r. r ≡ length s) (entries_from (suc n) k s p)
      go true t ih = let l : p ≡ length s = eqb-true p (length s) t in rw (entries-end (suc n) p l) l
      go false t ih =
          let ne : p ≡ length s → ⊥ = eqb-false p (length s) t in
          rw (entries_suc n p (omega arith))
          (every_then (λ e q. (p + 1 ≤ q) × (q ≤ length s)) (λ es r. r ≡ length s) (entry_at k s p) _ (entry_ahead s k p)
          (λ e q l. every_then (λ es r. r ≡ length s) (λ es r. r ≡ length s) (entries_from n k s q) _ (ih q l.1 (omega arith)) (λ es r m. m)))

-- Where the entries of s from p on are es, and the bytes x after s are an entry, those of s and x
-- are es and that entry.
module _ (k : BodyType) (s x : List ℕ) (d : Placed) (rows : has_rows k ≡ true → 17 ≤ length s) (some : 0 < length x)
    (this : entry_at k (s ++ x) (length s) ≡ got d (length (s ++ x))) where
  -- that entry alone, at the end of s
  snoc_end : (n p : ℕ) → p ≡ length s → entries_from (suc n) k (s ++ x) p ≡ got (d.entry ∷ []) (length (s ++ x))
  snoc_end n p h =
      entries_suc k (s ++ x) n p (omega (arith, length-append s x)) ∙ rw (h, this, entries-end k (s ++ x) n (length (s ++ x)) refl)

  -- for any count m of steps that is not less than was enough for s
  pub entries_snoc : (n m p : ℕ) → n ≤ m → p ≤ length s → length s ≤ n + p
      → Every (λ es r. entries_from (suc m) k (s ++ x) p ≡ got (es ++ (d.entry ∷ [])) (length (s ++ x))) (entries_from n k s p)
  entries_snoc zero m p l h enough = rw (entries-end k s zero p (omega arith)) (snoc_end m p (omega arith))
  entries_snoc (suc n) zero p l h enough = absurd (omega arith)
  entries_snoc (suc n) (suc m) p l h enough = go (eqb p (length s)) refl (entries_snoc n m)
    where
      go : (t : Bool) → eqb p (length s) ≡ t
          → ((q : ℕ) → n ≤ m → q ≤ length s → length s ≤ n + q
          → Every (λ es r. entries_from (suc m) k (s ++ x) q ≡ got (es ++ (d.entry ∷ [])) (length (s ++ x))) (entries_from n k s q))
          → Every (λ es r. entries_from (suc (suc m)) k (s ++ x) p ≡ got (es ++ (d.entry ∷ [])) (length (s ++ x))) (entries_from (suc n) k s p)
      go true t ih = let same : p ≡ length s = eqb-true p (length s) t in rw (entries-end k s (suc n) p same) (snoc_end (suc m) p same)
      go false t ih =
          let ne : p ≡ length s → ⊥ = eqb-false p (length s) t in
          rw (entries_suc k s n p (omega arith), entries_suc k (s ++ x) (suc m) p (omega (arith, length-append s x)))
          (every_then (λ e q. ((p + 1 ≤ q) × (q ≤ length s)) × (entry_at k (s ++ x) p ≡ got e q)) _ (entry_at k s p) _
          (every_both (λ e q. (p + 1 ≤ q) × (q ≤ length s)) (λ e q. entry_at k (s ++ x) p ≡ got e q) (entry_at k s p) (entry_ahead s k p) (entry_kept s x k p rows))
          (λ e q w. every_then (λ es r. entries_from (suc m) k (s ++ x) q ≡ got (es ++ (d.entry ∷ [])) (length (s ++ x))) _ (entries_from n k s q) _
          (ih q (omega arith) w.0.1 (omega arith)) (λ es r z. rw (w.1, z))))

-- ---- where the entries begin

-- after the first id and the first timestamp
pub first_rows : (s : List ℕ) → 17 ≤ length s → first_at true s ≡ got 17 17
first_rows s h = rw (ne_eqb (length s) 1 (omega arith), fixed_got s 1 (omega arith), fixed_got s 9 (omega arith))

-- in a body of one byte at its end, whatever its type
pub first_one : (b : Bool) (s : List ℕ) → length s ≡ 1 → first_at b s ≡ got 1 1
first_one true s h = rw (eq-eqb (length s) 1 h)
first_one false s h = refl

-- within the body; in a body of rows that has any byte after its tag, after the first id and the
-- first timestamp
pub first_bounds : (rows : Bool) (s : List ℕ) → 1 ≤ length s
    → Every (λ first q. (1 ≤ first) × (first ≤ length s) × (rows ≡ true → (length s ≡ 1 → ⊥) → 17 ≤ first)) (first_at rows s)
first_bounds false s h = (omega arith, h, λ r l. let z : ◌≡◌ {A = ℕ} 0 1 = cc in absurd (omega arith))
first_bounds true s h = go (eqb (length s) 1) refl
  where
    go : (b : Bool) → eqb (length s) 1 ≡ b
        → Every {A = ℕ} (λ first q. (1 ≤ first) × (first ≤ length s) × (true ≡ true → (length s ≡ 1 → ⊥) → 17 ≤ first))
        (cond b (got 1 1) (and_then (fixed_at s 1) (λ id q. and_then (fixed_at s q) (λ time r. got r r))))
    go true e = (omega arith, h, λ r l. absurd (l (eqb-true (length s) 1 e)))
    go false e =
        every_then (λ id q. (1 + 8 ≤ q) × (q ≤ length s)) _ (fixed_at s 1) _ (fixed_ahead s 1)
        (λ id q l. every_then (λ time r. (q + 8 ≤ r) × (r ≤ length s)) _ (fixed_at s q) _ (fixed_ahead s q) (λ time r m. (omega arith, m.1, λ x y. omega arith)))

-- the entries of a body end at its end, and a body of rows with any byte after its tag has 17 bytes
-- or more
pub entries-whole : (k : BodyType) (s : List ℕ) → 1 ≤ length s
    → Every (λ es r. (r ≡ length s) × (has_rows k ≡ true → (length s ≡ 1 → ⊥) → 17 ≤ length s)) (entries k s)
unfolding entries
entries-whole k s h =
    every_then _ _ (first_at (has_rows k) s) _ (first_bounds (has_rows k) s h)
    (λ first q l. every_both _ _ (entries_from (length s) k s first) (entries_last k s (length s) first l.1 (omega arith))
    (always (entries_from (length s) k s first) (λ r ne. omega (arith, l.2 r ne))))
  where
    always : (x : Field (List Entry)) → (has_rows k ≡ true → (length s ≡ 1 → ⊥) → 17 ≤ length s)
        → Every (λ es r. has_rows k ≡ true → (length s ≡ 1 → ⊥) → 17 ≤ length s) x
    always (got es r) z = z
    always (fault why) z = tt
