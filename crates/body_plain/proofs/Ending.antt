-- Where entries end: where their fields do, one after the other.
use Rattle.std.proofs.Common.{◌≡◌, List, ℕ}
use Rattle.body_format.specs.Fields.{byte_at, fixed_at, uvarint_at, varint_at, string_list_at}
use Rattle.body_format.specs.Entries.{series_at, tombstone_at, metadata_at}
use Rattle.body_fields.specs.Results.Place.{Place}
use Rattle.body_fields.specs.Ends.{end_of, onward}
use Rattle.body_fields.specs.EndLaws.{end_two, end_three}

module _ (s : List ℕ) (p : ℕ) {q t : Place} where
  pub series-ends : q ≡ end_of (fixed_at s p) → t ≡ onward q (λ x. end_of (string_list_at s x)) → t ≡ end_of (series_at s p)
  unfolding series_at
  series-ends = end_two (fixed_at s p) (string_list_at s) _

  module _ {r : Place} where
    pub tombstone-ends : q ≡ end_of (fixed_at s p) → r ≡ onward q (λ x. end_of (varint_at s x))
        → t ≡ onward r (λ x. end_of (varint_at s x)) → t ≡ end_of (tombstone_at s p)
    unfolding tombstone_at
    tombstone-ends = end_three (fixed_at s p) (varint_at s) (varint_at s) _

    pub metadata_ends : q ≡ end_of (uvarint_at s p) → r ≡ onward q (λ x. end_of (byte_at s x))
        → t ≡ onward r (λ x. end_of (string_list_at s x)) → t ≡ end_of (metadata_at s p)
    unfolding metadata_at
    metadata_ends = end_three (uvarint_at s p) (byte_at s) (string_list_at s) _
