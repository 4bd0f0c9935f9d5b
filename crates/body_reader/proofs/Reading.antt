-- A string's answer, the list of entries one step at a time, and where the entries begin.
use Rattle.std.specs.Prelude.{◌≡◌, refl, Bool, true, List, [], ◌∷◌, ℕ, zero, suc, ◌+◌, ◌-◌, ◌≤◌, ◌<◌, length}
use Rattle.std.proofs.Common.{sym, ap, ◌∙◌, arith, add-zero}
use Rattle.wal_types.specs.declared.Refusal.{Refusal}
use Rattle.wal_types.specs.declared.Refusal.TheVariants.{Short}
use Rattle.wal_types.specs.Terms.{offset}
use Rattle.body_format.specs.Results.CheckAnswer.{CheckAnswer}
use Rattle.body_format.specs.Results.CheckAnswer.{Entries, Refused as CheckRefused}
use Rattle.body_format.specs.Results.StringAnswer.{Found as StringFound, Refused as StringRefused}
use Rattle.body_format.specs.Fields.{Field, got, fault, and_then, StringField}
use Rattle.body_format.specs.Entries.{BodyType, samples, Entry, Placed, has_rows, entry_at, entries_from, first_at, entries, known}
use Rattle.body_format.specs.Reading.{check_fields, check_known, check_body, answer_string}
use Rattle.body_format.proofs.Laws.Bounds.{of_got, entry_ahead}
use Rattle.body_format.proofs.Laws.Fields.{fixed_short}
use Rattle.body_format.proofs.Laws.Lists.{entries-end, entries_suc, first_bounds}
use Rattle.body_fields.specs.Results.Place.{Place}
use Rattle.body_fields.specs.Results.Place.{At, Fault}
use Rattle.body_fields.specs.Ends.{end_of}
use Rattle.body_fields.specs.Laws.{never}
use Rattle.body_rows.specs.Rows.{place_read}

-- ---- a string

pub string-found : (f : Field StringField) {start size q : ℕ}
    → (t : StringField) × (f ≡ got t q) × (t.start ≡ start) × (length t.bytes ≡ size)
    → StringFound (offset start) size ≡ answer_string f
string-found f (t, e, a, b) = rw (e, ← a, ← b)

pub string-refused : (f : Field StringField) {why : Refusal} → f ≡ fault why → StringRefused why ≡ answer_string f
string-refused f e = rw e

-- ---- entries

abbrev counted : ℕ → Field (List Entry) → CheckAnswer
counted c (got es p) = Entries (c + length es)
counted c (fault why) = CheckRefused why

counted_none : (f : Field (List Entry)) → counted 0 f ≡ check_fields f
counted_none (got es p) = ap Entries (omega arith)
counted_none (fault why) = refl

one_more : (c : ℕ) (e : Entry) (f : Field (List Entry))
    → counted c (and_then f (λ es r. got (e ∷ es) r)) ≡ counted (c + 1) f
one_more c e (got es r) = ap Entries (omega arith)
one_more c e (fault why) = refl

-- at `at`, after `count` entries; `fuel` is more than the bytes left
pub record Counting (k : BodyType) (s : List ℕ) (first at count : ℕ) : Type 0 where
  pub fuel : ℕ
  pub enough : length s - at < fuel
  pub inside : at ≤ length s
  pub few : count ≤ at
  pub same : counted count (entries_from fuel k s at) ≡ check_fields (entries_from (length s) k s first)

abbrev pub EndTold : BodyType → List ℕ → ℕ → ℕ → ℕ → Place → Type 0
EndTold k s first at count (At q) = Counting k s first q (count + 1) × (at < q) × (q ≤ length s)
EndTold k s first at count (Fault why) = CheckRefused why ≡ check_fields (entries_from (length s) k s first)

pub counting : (k : BodyType) (s : List ℕ) (first : ℕ) → 0 < first → first ≤ length s → Counting k s first first 0
counting k s first h l = record {
  fuel = length s;
  enough = omega arith;
  inside = l;
  few = omega arith;
  same = counted_none (entries_from (length s) k s first);
}

end_step : (k : BodyType) (s : List ℕ) (first at count n : ℕ) → length s - at < suc n → at < length s → count ≤ at
    → counted count (entries_from (suc n) k s at) ≡ check_fields (entries_from (length s) k s first)
    → (f : Field Placed) → entry_at k s at ≡ f → EndTold k s first at count (end_of f)
end_step k s first at count n m l w same (fault why) h = rw (entries_suc k s n at l, h) at same
end_step k s first at count n m l w same (got x q) h =
    let b = of_got _ (entry_at k s at) x q (entry_ahead s k at) h in
    let t : counted (count + 1) (entries_from n k s q) ≡ check_fields (entries_from (length s) k s first)
    = sym (one_more count x.entry (entries_from n k s q)) ∙ (rw (entries_suc k s n at l, h) at same) in
    (record { fuel = n; enough = omega arith; inside = b.1; few = omega arith; same = t }, omega arith, b.1)

-- one entry more
pub end-turn : (k : BodyType) (s : List ℕ) (first at count : ℕ) → Counting k s first at count → at < length s
    → (r : Place) → r ≡ end_of (entry_at k s at) → EndTold k s first at count r
end-turn k s first at count i l r e = rw e (go i.fuel i.enough i.same)
  where
    go : (n : ℕ) → length s - at < n
        → counted count (entries_from n k s at) ≡ check_fields (entries_from (length s) k s first)
        → EndTold k s first at count (end_of (entry_at k s at))
    go zero m same = absurd (omega arith)
    go (suc n) m same = end_step k s first at count n m l i.few same (entry_at k s at) refl

-- no entry is left
pub count-done : (k : BodyType) (s : List ℕ) (first at count : ℕ) → Counting k s first at count → length s ≤ at
    → Entries count ≡ check_fields (entries_from (length s) k s first)
count-done k s first at count i l =
    ap Entries (sym (add-zero count)) ∙ (rw (entries-end k s i.fuel at (omega (arith, i.inside))) at i.same)

-- ---- where the entries begin

-- what the place that was found says of the definition's reading
pub place_at : (f : Field ℕ) (r : Place) {p : ℕ} → r ≡ place_read f → r ≡ At p → (q : ℕ) × (f ≡ got p q)
place_at (got n q) r e g = (q, cc)
place_at (fault w) r e g = never cc

pub place-fault : (f : Field ℕ) (r : Place) {why : Refusal} → r ≡ place_read f → r ≡ Fault why → f ≡ fault why
place-fault (got n q) r e g = never cc
place-fault (fault w) r e g = cc

-- the whole check: where the entries begin, and then all of them
pub check-all : (k : BodyType) (s : List ℕ) {first : ℕ}
    → check_body s ≡ check_known (known k) s → (q : ℕ) × (first_at (has_rows k) s ≡ got first q)
    → check_fields (entries_from (length s) k s first) ≡ check_body s
unfolding entries
check-all k s h (q, e) = rw (h, e)

pub check-fault : (k : BodyType) (s : List ℕ) {why : Refusal}
    → check_body s ≡ check_known (known k) s → first_at (has_rows k) s ≡ fault why → CheckRefused why ≡ check_body s
unfolding entries
check-fault k s h e = rw (h, e)

-- they begin after place 0, and no later than the body ends
pub first_inside : (t : Bool) (s : List ℕ) {p : ℕ} → 0 < length s → (q : ℕ) × (first_at t s ≡ got p q)
    → (0 < p) × (p ≤ length s)
first_inside t s {p} h (q, e) = let b = of_got _ (first_at t s) p q (first_bounds t s h) e in (b.0, b.1)

-- ---- samples alone

pub samples-all : (s : List ℕ) {first : ℕ} → (q : ℕ) × (first_at true s ≡ got first q)
    → check_fields (entries_from (length s) samples s first) ≡ check_known (known samples) s
unfolding entries
samples-all s (q, e) = rw e

pub samples-fault : (s : List ℕ) {why : Refusal} → first_at true s ≡ fault why → CheckRefused why ≡ check_known (known samples) s
unfolding entries
samples-fault s e = rw e

-- an empty body has no place where they begin
pub samples_inside : (s : List ℕ) {p : ℕ} → (q : ℕ) × (first_at true s ≡ got p q) → (0 < p) × (p ≤ length s)
samples_inside [] {p} (q, e) =
    let z : ◌≡◌ {A = Field ℕ} (fault (Short (offset 1))) (got p q) = rw (fixed_short [] 1 (omega arith)) at e in
    never cc
samples_inside (b ∷ s) e = first_inside true (b ∷ s) (omega arith) e
