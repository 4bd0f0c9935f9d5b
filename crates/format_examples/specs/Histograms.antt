-- Worked examples of FORMAT 9.4: histograms that Prometheus wrote (tests/fixtures, small_kill9), as
-- its decoder reads them, and one at the limits of its fields. Read and built by the definitions.
-- Assumes nothing.
use Rattle.std.specs.Prelude.{◌≡◌, refl, List, [], ◌∷◌, ℕ, ◌-◌, ◌^◌, ℤ, pos, negsuc, replicate}
use Rattle.uvarint.specs.Uvarint.{groups, uvarint, read_uvarint, read_groups, after}
use Rattle.varint.specs.Varint.{zigzag, unzigzag, varint, signed, read_varint}
use Rattle.big_endian.specs.Fixed.{be4, be8, read_be4, read_be8}
use Rattle.wal_types.specs.declared.Refusal.TheVariants.{BadRange}
use Rattle.wal_types.specs.Terms.{offset}
use Rattle.wal_types.specs.Deltas.{to_bits, int_from_bits, plus, minus}
use Rattle.body_format.specs.declared.BucketKind.TheVariants.{Whole, Float}
use Rattle.body_format.specs.declared.Numbers.{Numbers}
use Rattle.body_format.specs.Fields.{got, fault, byte_at, fixed_at, uvarint_at, varint_at}
use Rattle.body_format.specs.Heads.{delta_at, delta_bytes, head_at, head_bytes}
use Rattle.body_format.specs.Histograms.{int32_at, uint32_at, count_at, count_bytes, bucket_at, bucket_bytes, span_at, span_bytes, items_at, items_bytes, list_at, list_bytes, sides_at, sides_bytes, numbers_at, numbers_bytes, lists_at, lists_bytes, histogram_at, histogram_bytes, LentSpans, join_spans, bad_spans}
use Rattle.body_format.specs.Entries.{histograms, body_type_of, Entry, histogram_entry_at, entries_from, entries}
use Rattle.body_format.specs.Building.{entry_bytes, start, bad_state, add}
use Rattle.body_format.specs.Calls.{Addition, add_histogram, entry_for, starter, builder, final_buffer}

-- what is put in: a span's offsets and lengths, and buckets as 64 bits
abbrev lent : List ℤ → List ℕ → LentSpans
lent gaps sizes = record { gaps = gaps; sizes = sizes }

abbrev negative : ℕ → ℕ
negative n = 2 ^ 64 - n

-- ---- type 7, by Prometheus: two histograms of one scrape

abbrev whole_body : List ℕ
whole_body =
    0x07 ∷ 0x00 ∷ 0x00 ∷ 0x00 ∷ 0x00 ∷ 0x00 ∷ 0x00 ∷ 0x00 ∷ 0x1C ∷ 0x00 ∷ 0x00 ∷ 0x01 ∷ 0xA1
    ∷ 0xDF ∷ 0xA0 ∷ 0xDB ∷ 0x89 ∷ 0x00 ∷ 0x00 ∷ 0x00 ∷ 0x06 ∷ 0x25 ∷ 0x5B ∷ 0xBA ∷ 0x08 ∷ 0xCF
    ∷ 0x8C ∷ 0x97 ∷ 0x9D ∷ 0x01 ∷ 0x20 ∷ 0xC0 ∷ 0x12 ∷ 0x00 ∷ 0x00 ∷ 0x00 ∷ 0x00 ∷ 0x00 ∷ 0x00
    ∷ 0x02 ∷ 0x00 ∷ 0x03 ∷ 0x04 ∷ 0x02 ∷ 0x01 ∷ 0x01 ∷ 0x02 ∷ 0x05 ∷ 0x06 ∷ 0x04 ∷ 0x01 ∷ 0x08
    ∷ 0x03 ∷ 0x02 ∷ 0x02 ∷ 0x06 ∷ 0x02 ∷ 0x00 ∷ 0x00 ∷ 0x06 ∷ 0x25 ∷ 0x5B ∷ 0xBA ∷ 0x08 ∷ 0xCF
    ∷ 0x8C ∷ 0x97 ∷ 0x9D ∷ 0x04 ∷ 0x41 ∷ 0xC0 ∷ 0x28 ∷ 0x00 ∷ 0x00 ∷ 0x00 ∷ 0x00 ∷ 0x00 ∷ 0x00
    ∷ 0x02 ∷ 0x00 ∷ 0x03 ∷ 0x04 ∷ 0x02 ∷ 0x01 ∷ 0x01 ∷ 0x02 ∷ 0x05 ∷ 0x10 ∷ 0x04 ∷ 0x01 ∷ 0x08
    ∷ 0x03 ∷ 0x02 ∷ 0x02 ∷ 0x10 ∷ []

abbrev whole_one : ℕ → ℕ → ℕ → ℕ → ℕ → Addition
whole_one id zeros count sum bucket = add_histogram Whole (record { id = id; time = pos 1794753223561 })
    (record { hint = 0; schema = pos 3; threshold = 0x255BBA08CF8C979D; zeros = zeros; count = count; sum = sum })
    (record {
      spans = record {
        positive = lent (pos 0 ∷ pos 2 ∷ []) (3 ∷ 2 ∷ []);
        negative = lent (negsuc 0 ∷ []) (2 ∷ []);
      };
      buckets = record {
        positive = bucket ∷ 2 ∷ negative 1 ∷ 4 ∷ negative 2 ∷ [];
        negative = 1 ∷ bucket ∷ [];
      };
    })

abbrev whole_additions : List Addition
whole_additions = whole_one 28 1 32 0xC012000000000000 3 ∷ whole_one 29 4 65 0xC028000000000000 8 ∷ []

-- ---- type 8, by Prometheus

abbrev float_body : List ℕ
float_body =
    0x08 ∷ 0x00 ∷ 0x00 ∷ 0x00 ∷ 0x00 ∷ 0x00 ∷ 0x00 ∷ 0x00 ∷ 0x1E ∷ 0x00 ∷ 0x00 ∷ 0x01 ∷ 0xA1
    ∷ 0xDF ∷ 0xA0 ∷ 0xDB ∷ 0x89 ∷ 0x00 ∷ 0x00 ∷ 0x00 ∷ 0x01 ∷ 0x3F ∷ 0x50 ∷ 0x62 ∷ 0x4D ∷ 0xD2
    ∷ 0xF1 ∷ 0xA9 ∷ 0xFC ∷ 0x3F ∷ 0xE8 ∷ 0x00 ∷ 0x00 ∷ 0x00 ∷ 0x00 ∷ 0x00 ∷ 0x00 ∷ 0x40 ∷ 0x22
    ∷ 0x40 ∷ 0x00 ∷ 0x00 ∷ 0x00 ∷ 0x00 ∷ 0x00 ∷ 0x40 ∷ 0x1E ∷ 0x00 ∷ 0x00 ∷ 0x00 ∷ 0x00 ∷ 0x00
    ∷ 0x00 ∷ 0x02 ∷ 0x03 ∷ 0x02 ∷ 0x02 ∷ 0x01 ∷ 0x01 ∷ 0x00 ∷ 0x01 ∷ 0x03 ∷ 0x3F ∷ 0xF8 ∷ 0x00
    ∷ 0x00 ∷ 0x00 ∷ 0x00 ∷ 0x00 ∷ 0x00 ∷ 0x40 ∷ 0x04 ∷ 0x00 ∷ 0x00 ∷ 0x00 ∷ 0x00 ∷ 0x00 ∷ 0x00
    ∷ 0x40 ∷ 0x0A ∷ 0x00 ∷ 0x00 ∷ 0x00 ∷ 0x00 ∷ 0x00 ∷ 0x00 ∷ 0x01 ∷ 0x3F ∷ 0xF2 ∷ 0x00 ∷ 0x00
    ∷ 0x00 ∷ 0x00 ∷ 0x00 ∷ 0x00 ∷ []

abbrev float_additions : List Addition
float_additions = add_histogram Float (record { id = 30; time = pos 1794753223561 })
    (record {
      hint = 0;
      schema = negsuc 0;
      threshold = 0x3F50624DD2F1A9FC;
      zeros = 0x3FE8000000000000;
      count = 0x4022400000000000;
      sum = 0x401E000000000000;
    })
    (record {
      spans = record { positive = lent (negsuc 1 ∷ pos 1 ∷ []) (2 ∷ 1 ∷ []); negative = lent (pos 0 ∷ []) (1 ∷ []) };
      buckets = record {
        positive = 0x3FF8000000000000 ∷ 0x4004000000000000 ∷ 0x400A000000000000 ∷ [];
        negative = 0x3FF2000000000000 ∷ [];
      };
    }) ∷ []

-- ---- the limits: spans of 32 bits, the smallest bucket, an empty list

abbrev limits_body : List ℕ
limits_body =
    0x07 ∷ 0x00 ∷ 0x00 ∷ 0x00 ∷ 0x00 ∷ 0x00 ∷ 0x00 ∷ 0x00 ∷ 0x07 ∷ 0x00 ∷ 0x00 ∷ 0x00 ∷ 0x00
    ∷ 0x00 ∷ 0x00 ∷ 0x03 ∷ 0xE8 ∷ 0x00 ∷ 0x00 ∷ 0x03 ∷ 0x69 ∷ 0x3F ∷ 0xF0 ∷ 0x00 ∷ 0x00 ∷ 0x00
    ∷ 0x00 ∷ 0x00 ∷ 0x00 ∷ 0x05 ∷ 0xAC ∷ 0x02 ∷ 0x40 ∷ 0x00 ∷ 0x00 ∷ 0x00 ∷ 0x00 ∷ 0x00 ∷ 0x00
    ∷ 0x00 ∷ 0x02 ∷ 0x01 ∷ 0x02 ∷ 0xD8 ∷ 0x04 ∷ 0xFF ∷ 0xFF ∷ 0xFF ∷ 0xFF ∷ 0x0F ∷ 0x01 ∷ 0xFF
    ∷ 0xFF ∷ 0xFF ∷ 0xFF ∷ 0x0F ∷ 0x00 ∷ 0x03 ∷ 0x7F ∷ 0x02 ∷ 0xFF ∷ 0xFF ∷ 0xFF ∷ 0xFF ∷ 0xFF
    ∷ 0xFF ∷ 0xFF ∷ 0xFF ∷ 0xFF ∷ 0x01 ∷ 0x00 ∷ []

abbrev limits_numbers : Numbers
limits_numbers =
    record { hint = 3; schema = negsuc 52; threshold = 0x3FF0000000000000; zeros = 5; count = 300; sum = 0x4000000000000000 }

-- the entries put in
abbrev entries_of : List Addition → List Entry
entries_of [] = []
entries_of (a ∷ rest) = entry_for a ∷ entries_of rest

-- the body that additions build in a fresh buffer of n bytes
abbrev built : ℕ → ℕ → List Addition → List ℕ
built t n xs = final_buffer builder t (starter (replicate n 0) t).buffer 1 xs

pub table :
    -- Prometheus' bytes are read as its decoder reads them, and built from that
    (entries (histograms Whole) whole_body ≡ got (entries_of whole_additions) 95)
    × (built 7 95 whole_additions ≡ whole_body)
    × (entries (histograms Float) float_body ≡ got (entries_of float_additions) 95)
    × (built 8 95 float_additions ≡ float_body)
    -- the places of the lists
    × (histogram_at Whole limits_body 17 ≡ got (record {
      head = record { id = 7; time = pos 1000 };
      numbers = limits_numbers;
      lists = record {
        spans = record {
          positive = record { first = 41; items = record { gap = negsuc 0; size = 2 } ∷ record { gap = pos 300; size = 2 ^ 32 - 1 } ∷ [] };
          negative = record { first = 51; items = record { gap = negsuc (2 ^ 31 - 1); size = 0 } ∷ [] };
        };
        buckets = record {
          positive = record { first = 58; items = negative 64 ∷ 1 ∷ 2 ^ 63 ∷ [] };
          negative = record { first = 71; items = [] };
        };
      };
    }) 71)
    -- a schema of 2^31, and a span's length of 2^32
    × (int32_at (0x80 ∷ 0x80 ∷ 0x80 ∷ 0x80 ∷ 0x10 ∷ []) 0 ≡ fault (BadRange (offset 0)))
    × (uint32_at (0x80 ∷ 0x80 ∷ 0x80 ∷ 0x80 ∷ 0x10 ∷ []) 0 ≡ fault (BadRange (offset 0)))
unfolding groups uvarint read_uvarint read_groups after zigzag unzigzag varint signed read_varint be4 be8 read_be4 read_be8 to_bits int_from_bits plus minus byte_at fixed_at uvarint_at varint_at delta_at delta_bytes head_at head_bytes int32_at uint32_at count_at count_bytes bucket_at bucket_bytes span_at span_bytes items_at items_bytes list_at list_bytes sides_at sides_bytes numbers_at numbers_bytes lists_at lists_bytes histogram_at histogram_bytes join_spans bad_spans body_type_of histogram_entry_at entries_from entries entry_bytes start bad_state add final_buffer
table = (refl, refl, refl, refl, refl, refl, refl)
