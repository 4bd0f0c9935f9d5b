-- What each entry's fields give, fault by fault, in the code's forms.
use Rattle.std.proofs.Common.{◌≡◌, List, ℕ, ℤ, pos, length}
use Rattle.wal_types.specs.declared.Refusal.{Refusal}
use Rattle.wal_types.specs.Terms.{offset, series_id, timestamp}
use Rattle.body_format.specs.Results.EntryAnswer.{Found, Refused}
use Rattle.body_format.specs.Fields.{got, fault, StringList, fixed_at, uvarint_at, varint_at, byte_at, string_list_at}
use Rattle.body_format.specs.Entries.{series_at, tombstone_at, metadata_at}
use Rattle.body_format.specs.Reading.{answer_entry}

module _ (s : List ℕ) (p : ℕ) where
  -- ---- type 1

  pub series_1 : {why : Refusal} → fixed_at s p ≡ fault why → Refused why ≡ answer_entry (series_at s p)
  unfolding series_at
  series_1 h = rw h

  pub series_2 : {id q : ℕ} {why : Refusal} → fixed_at s p ≡ got id q → string_list_at s q ≡ fault why
      → Refused why ≡ answer_entry (series_at s p)
  unfolding series_at
  series_2 h i = rw (h, i)

  pub series-all : {id q n first next : ℕ} → fixed_at s p ≡ got id q
      → (l : StringList) × (string_list_at s q ≡ got l next) × (length l.strings ≡ n) × (l.first ≡ first)
      → Found (record {
        tag = 1;
        id = series_id id;
        time = timestamp (pos 0);
        max = timestamp (pos 0);
        bits = 0;
        strings = n;
        first = offset first;
        next = offset next;
      })
      ≡ answer_entry (series_at s p)
  unfolding series_at
  series-all h (l, i, j, k) = rw (h, i, ← j, ← k)

  -- ---- type 3

  pub tombstone_1 : {why : Refusal} → fixed_at s p ≡ fault why → Refused why ≡ answer_entry (tombstone_at s p)
  unfolding tombstone_at
  tombstone_1 h = rw h

  pub tombstone_2 : {id q : ℕ} {why : Refusal} → fixed_at s p ≡ got id q → varint_at s q ≡ fault why
      → Refused why ≡ answer_entry (tombstone_at s p)
  unfolding tombstone_at
  tombstone_2 h i = rw (h, i)

  pub tombstone_3 : {id q r : ℕ} {min : ℤ} {why : Refusal}
      → fixed_at s p ≡ got id q → varint_at s q ≡ got min r → varint_at s r ≡ fault why
      → Refused why ≡ answer_entry (tombstone_at s p)
  unfolding tombstone_at
  tombstone_3 h i j = rw (h, i, j)

  pub tombstone-all : {id q r next : ℕ} {min max x y : ℤ}
      → fixed_at s p ≡ got id q → varint_at s q ≡ got min r → varint_at s r ≡ got max next → x ≡ min → y ≡ max
      → Found (record {
        tag = 3;
        id = series_id id;
        time = timestamp x;
        max = timestamp y;
        bits = 0;
        strings = 0;
        first = offset next;
        next = offset next;
      })
      ≡ answer_entry (tombstone_at s p)
  unfolding tombstone_at
  tombstone-all h i j k l = rw (h, i, j, k, l)

  -- ---- type 6

  pub metadata_1 : {why : Refusal} → uvarint_at s p ≡ fault why → Refused why ≡ answer_entry (metadata_at s p)
  unfolding metadata_at
  metadata_1 h = rw h

  pub metadata_2 : {id q : ℕ} {why : Refusal} → uvarint_at s p ≡ got id q → byte_at s q ≡ fault why
      → Refused why ≡ answer_entry (metadata_at s p)
  unfolding metadata_at
  metadata_2 h i = rw (h, i)

  pub metadata_3 : {id q m r : ℕ} {why : Refusal}
      → uvarint_at s p ≡ got id q → byte_at s q ≡ got m r → string_list_at s r ≡ fault why
      → Refused why ≡ answer_entry (metadata_at s p)
  unfolding metadata_at
  metadata_3 h i j = rw (h, i, j)

  pub metadata_all : {id q m r n first next : ℕ} → uvarint_at s p ≡ got id q → byte_at s q ≡ got m r
      → (l : StringList) × (string_list_at s r ≡ got l next) × (length l.strings ≡ n) × (l.first ≡ first)
      → Found (record {
        tag = 6;
        id = series_id id;
        time = timestamp (pos 0);
        max = timestamp (pos 0);
        bits = m;
        strings = n;
        first = offset first;
        next = offset next;
      })
      ≡ answer_entry (metadata_at s p)
  unfolding metadata_at
  metadata_all h i (l, j, k, o) = rw (h, i, j, ← k, ← o)
