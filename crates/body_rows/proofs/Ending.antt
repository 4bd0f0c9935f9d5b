-- Where rows and their entries end: where their fields do, one after the other.
use Rattle.std.proofs.Common.{◌≡◌, refl, Bool, true, false, List, ℕ, sym, ◌∙◌}
use Rattle.body_format.specs.Fields.{fixed_at, uvarint_at, string_list_at}
use Rattle.body_format.specs.Heads.{delta_at, head_at}
use Rattle.body_format.specs.Entries.{row_at, sample_at, exemplar_at, entry_at}
use Rattle.wal_types.specs.declared.Refusal.{Refusal}
use Rattle.body_fields.specs.Results.Place.{Place}
use Rattle.body_fields.specs.Results.Place.{Fault}
use Rattle.body_rows.specs.Rows.{rows_type}
use Rattle.body_fields.specs.Ends.{end_of, onward}
use Rattle.body_fields.specs.EndLaws.{end-one, end_two, delta_end}

-- the head: each delta ends where its zigzag does
head-ends : (s : List ℕ) (p : ℕ) {q r : Place} → q ≡ end_of (uvarint_at s p) → r ≡ onward q (λ x. end_of (uvarint_at s x))
    → r ≡ end_of (head_at s p)
unfolding head_at
head-ends s p {q} e h =
    end_two (delta_at s p) (delta_at s) _ (e ∙ delta_end s p) (h ∙ (λ i. onward q (λ x. delta_end s x i)))

module _ (s : List ℕ) (p : ℕ) {t : Place} where
  pub row_ends : {q r : Place} → q ≡ end_of (uvarint_at s p) → r ≡ onward q (λ x. end_of (uvarint_at s x))
      → t ≡ onward r (λ x. end_of (fixed_at s x)) → t ≡ end_of (row_at s p)
  unfolding row_at
  row_ends e h = end_two (head_at s p) (fixed_at s) _ (head-ends s p e h)

  pub sample-ends : t ≡ end_of (row_at s p) → t ≡ end_of (sample_at s p)
  unfolding sample_at
  sample-ends e = e ∙ sym (end-one (row_at s p) _)

  pub exemplar_ends : {q : Place} → q ≡ end_of (row_at s p) → t ≡ onward q (λ x. end_of (string_list_at s x))
      → t ≡ end_of (exemplar_at s p)
  unfolding exemplar_at
  exemplar_ends = end_two (row_at s p) (string_list_at s) _

-- a fault of the row is the entry's
pub entry_faults : (s : List ℕ) (p : ℕ) (labelled : Bool) {why : Refusal} → Fault why ≡ end_of (row_at s p)
    → Fault why ≡ end_of (entry_at (rows_type labelled) s p)
entry_faults s p false e = sample-ends s p e
entry_faults s p true e = exemplar_ends s p e refl
