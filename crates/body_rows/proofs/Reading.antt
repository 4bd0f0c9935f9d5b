-- What the fields of a row and of an entry of rows give, fault by fault, in the code's forms.
use Rattle.std.proofs.Common.{Bool, true, false, ◌≡◌, refl, List, ℕ, ℤ, pos, ap, ap₂, ◌∙◌}
use Rattle.wal_types.specs.declared.Refusal.{Refusal}
use Rattle.wal_types.specs.declared.SeriesId.{SeriesId}
use Rattle.wal_types.specs.declared.Timestamp.{Timestamp}
use Rattle.wal_types.specs.Terms.{offset, series_id, timestamp}
use Rattle.wal_types.specs.Deltas.{plus, to_bits, int_from_bits}
use Rattle.varint.specs.Varint.{unzigzag}
use Rattle.body_format.specs.Results.EntryAnswer.{Found, Refused}
use Rattle.body_format.specs.Fields.{Field, got, fault, StringList, fixed_at, uvarint_at, string_list_at}
use Rattle.body_format.specs.Heads.{head_at}
use Rattle.body_format.proofs.Laws.Heads.{delta_got, delta_fault}
use Rattle.body_format.specs.Entries.{Row, row_at, sample_at, exemplar_at, entry_at}
use Rattle.body_format.specs.Reading.{answer_entry}
use Rattle.body_fields.specs.Readings.{string_list_read}
use Rattle.body_fields.specs.Laws.{never}
use Rattle.body_rows.specs.Results.RowRead.{RowRead}
use Rattle.body_rows.specs.Results.RowRead as row
use Rattle.body_rows.specs.Results.HeadRead as head
use Rattle.body_rows.specs.Rows.{rows_type, head_read}
use Rattle.body_rows.specs.Forms.{BaseIn, row_read, row_got, exemplar_of}

-- ---- what a row that was read says

pub row-got : (f : Field Row) (r : RowRead) {id : SeriesId} {time : Timestamp} {v q : ℕ}
    → r ≡ row_read f → r ≡ row.Got id time v q → f ≡ got (record { id = id.0; time = time.0; bits = v }) q
row-got (got m p) r {id} {time} {v} {q} e g =
    let w : ◌≡◌ {A = SeriesId × Timestamp × ℕ × ℕ} (series_id m.id, timestamp m.time, m.bits, p) (id, time, v, q) = cc in
    ap (λ (x : SeriesId × Timestamp × ℕ × ℕ). got (record { id = x.0.0; time = x.1.0; bits = x.2 }) x.3) w
row-got (fault w) r e g = never cc

pub row-fault : (f : Field Row) (r : RowRead) {why : Refusal} → r ≡ row_read f → r ≡ row.Fault why → f ≡ fault why
row-fault (got m p) r e g = never cc
row-fault (fault w) r e g = cc

module _ (s : List ℕ) (p : ℕ) where
  -- ---- a row: the zigzags of its deltas, and its value

  pub row_1 : {why : Refusal} → uvarint_at s p ≡ fault why → row.Fault why ≡ row_read (row_at s p)
  unfolding row_at head_at
  row_1 h = rw (delta_fault s p _ h)

  pub row_2 : {d q : ℕ} {why : Refusal} → uvarint_at s p ≡ got d q → uvarint_at s q ≡ fault why
      → row.Fault why ≡ row_read (row_at s p)
  unfolding row_at head_at
  row_2 {q = q} h i = rw (delta_got s p _ _ h, delta_fault s q _ i)

  pub row_3 : {d q e r : ℕ} {why : Refusal}
      → uvarint_at s p ≡ got d q → uvarint_at s q ≡ got e r → fixed_at s r ≡ fault why
      → row.Fault why ≡ row_read (row_at s p)
  unfolding row_at head_at
  row_3 {q = q} h i j = rw (delta_got s p _ _ h, delta_got s q _ _ i, j)

  pub row-all : {d q e r v next : ℕ} {id : SeriesId} {time : Timestamp} {found : RowRead}
      → found ≡ row_got id time d e v next
      → uvarint_at s p ≡ got d q → uvarint_at s q ≡ got e r → fixed_at s r ≡ got v next → BaseIn s id time
      → found ≡ row_read (row_at s p)
  unfolding row_at head_at
  row-all {q = q} g h i j b = g ∙ rw (delta_got s p _ _ h, delta_got s q _ _ i, j, b.same_id, b.same-time)

  -- ---- the head of a row alone

  pub head_1 : {why : Refusal} → uvarint_at s p ≡ fault why → head.Fault why ≡ head_read (head_at s p)
  unfolding head_at
  head_1 h = rw (delta_fault s p _ h)

  pub head_2 : {d q : ℕ} {why : Refusal} → uvarint_at s p ≡ got d q → uvarint_at s q ≡ fault why
      → head.Fault why ≡ head_read (head_at s p)
  unfolding head_at
  head_2 {q = q} h i = rw (delta_got s p _ _ h, delta_fault s q _ i)

  pub head-all : {d q e next : ℕ} {first : SeriesId} {zero : Timestamp} (id : SeriesId) (time : Timestamp)
      → uvarint_at s p ≡ got d q → uvarint_at s q ≡ got e next → BaseIn s first zero
      → id.0 ≡ plus first.0 (to_bits (unzigzag d)) → time.0 ≡ int_from_bits (plus (to_bits zero.0) (to_bits (unzigzag e)))
      → head.Got id time next ≡ head_read (head_at s p)
  unfolding head_at
  head-all {q = q} {next = next} id time h i b a z =
      rw (delta_got s p _ _ h, delta_got s q _ _ i, ← b.same_id, ← b.same-time)
      (ap₂ (λ (m : ℕ) (n : ℤ). head.Got (series_id m) (timestamp n) next) a z)

  -- ---- a row, and its labels

  pub row-entry_1 : (labelled : Bool) {why : Refusal} → row_at s p ≡ fault why
      → Refused why ≡ answer_entry (entry_at (rows_type labelled) s p)
  unfolding sample_at exemplar_at
  row-entry_1 false h = rw h
  row-entry_1 true h = rw h

  -- samples have none
  pub row-entry_2 : {q v : ℕ} {id : SeriesId} {time : Timestamp} (labelled : Bool) → labelled ≡ false
      → row_at s p ≡ got (record { id = id.0; time = time.0; bits = v }) q
      → Found (record {
        tag = 2;
        id = id;
        time = time;
        max = timestamp (pos 0);
        bits = v;
        strings = 0;
        first = offset q;
        next = offset q;
      })
      ≡ answer_entry (entry_at (rows_type labelled) s p)
  unfolding sample_at
  row-entry_2 false e h = rw h
  row-entry_2 true e h = never cc

  exemplar : {q v : ℕ} {id : SeriesId} {time : Timestamp} (f : Field StringList)
      → string_list_at s q ≡ f → row_at s p ≡ got (record { id = id.0; time = time.0; bits = v }) q
      → exemplar_of id time v (string_list_read f) ≡ answer_entry (exemplar_at s p)
  unfolding exemplar_at
  exemplar (got l next) e h = rw (h, e)
  exemplar (fault why) e h = rw (h, e)

  pub row-entry_3 : {q v : ℕ} {id : SeriesId} {time : Timestamp} (labelled : Bool) → labelled ≡ true
      → row_at s p ≡ got (record { id = id.0; time = time.0; bits = v }) q
      → exemplar_of id time v (string_list_read (string_list_at s q)) ≡ answer_entry (entry_at (rows_type labelled) s p)
  row-entry_3 false e h = never cc
  row-entry_3 {q = q} true e h = exemplar (string_list_at s q) refl h
