-- What an answer in the code's form says of the definition's reading: the value and the place after
-- it, or the fault. Also laws of single numbers.
-- Assumes nothing.
use Rattle.std.specs.Prelude.{◌≡◌, refl, List, ℕ, ◌+◌, ◌^◌, ◌<◌, ℤ, length, get_or, drop}
use Rattle.std.proofs.Common.{ap, arith, lt-ltb, drop-cons}
use Rattle.std.specs.Int.Signed.{mag}
use Rattle.wal_types.specs.declared.Refusal.{Refusal}
use Rattle.varint.specs.Results.VarintRead.{VarintRead}
use Rattle.varint.specs.Results.VarintRead as v
use Rattle.uvarint.specs.Uvarint.{read_uvarint, read_groups}
use Rattle.varint.specs.Varint.{read_varint}
use Rattle.varint.specs.VarintLaws.{taken-varint}
use Rattle.body_format.specs.Fields.{Field, got, fault, StringField, StringList, uvarint_at, varint_of, varint_at}
use Rattle.body_format.proofs.Laws.Fields.{uvarint-got}
use Rattle.body_fields.specs.Results.NumberRead.{NumberRead}
use Rattle.body_fields.specs.Results.NumberRead as number
use Rattle.body_fields.specs.Results.SignedRead.{SignedRead}
use Rattle.body_fields.specs.Results.SignedRead as signed
use Rattle.body_fields.specs.Results.StringRead.{StringRead}
use Rattle.body_fields.specs.Results.StringRead as string
use Rattle.body_fields.specs.Results.StringListRead.{StringListRead}
use Rattle.body_fields.specs.Results.StringListRead as list
use Rattle.body_fields.specs.Readings.{number_read, signed_read, string_read, string_list_read}

-- two answers of different cases are never equal
pub never : {A : Type 0} → ◌≡◌ {A = ℕ} 0 1 → A
never z = absurd (omega arith)

pub number-got : (f : Field ℕ) (r : NumberRead) {n q : ℕ} → r ≡ number_read f → r ≡ number.Got n q → f ≡ got n q
number-got (got m p) r {n} {q} e g =
    let v : ◌≡◌ {A = ℕ × ℕ} (m, p) (n, q) = cc in ap (λ (w : ℕ × ℕ). got w.0 w.1) v
number-got (fault w) r e g = never cc

pub number-fault : (f : Field ℕ) (r : NumberRead) {why : Refusal}
    → r ≡ number_read f → r ≡ number.Fault why → f ≡ fault why
number-fault (got m p) r e g = never cc
number-fault (fault w) r e g = cc

pub signed-got : (f : Field ℤ) (r : SignedRead) {x : ℤ} {q : ℕ} → r ≡ signed_read f → r ≡ signed.Got x q → f ≡ got x q
signed-got (got m p) r {x} {q} e g =
    let v : ◌≡◌ {A = ℤ × ℕ} (m, p) (x, q) = cc in ap (λ (w : ℤ × ℕ). got w.0 w.1) v
signed-got (fault w) r e g = never cc

pub signed-fault : (f : Field ℤ) (r : SignedRead) {why : Refusal}
    → r ≡ signed_read f → r ≡ signed.Fault why → f ≡ fault why
signed-fault (got m p) r e g = never cc
signed-fault (fault w) r e g = cc

pub string-told : (f : Field StringField) (r : StringRead) {start size q : ℕ} → r ≡ string_read f → r ≡ string.Got start size q
    → (t : StringField) × (f ≡ got t q) × (t.start ≡ start) × (length t.bytes ≡ size)
string-told (got t p) r {start} {size} {q} e g =
    let v : ◌≡◌ {A = ℕ × ℕ × ℕ} (t.start, length t.bytes, p) (start, size, q) = cc in
    (t, ap (λ (w : ℕ × ℕ × ℕ). got t w.2) v, ap (λ (w : ℕ × ℕ × ℕ). w.0) v, ap (λ (w : ℕ × ℕ × ℕ). w.1) v)
string-told (fault w) r e g = never cc

pub string_faulty : (f : Field StringField) (r : StringRead) {why : Refusal} → r ≡ string_read f → r ≡ string.Fault why → f ≡ fault why
string_faulty (got m p) r e g = never cc
string_faulty (fault w) r e g = cc

pub list-got : (f : Field StringList) (r : StringListRead) {n first q : ℕ} → r ≡ string_list_read f → r ≡ list.Got n first q
    → (l : StringList) × (f ≡ got l q) × (length l.strings ≡ n) × (l.first ≡ first)
list-got (got l p) r {n} {first} {q} e g =
    let v : ◌≡◌ {A = ℕ × ℕ × ℕ} (length l.strings, l.first, p) (n, first, q) = cc in
    (l, ap (λ (w : ℕ × ℕ × ℕ). got l w.2) v, ap (λ (w : ℕ × ℕ × ℕ). w.0) v, ap (λ (w : ℕ × ℕ × ℕ). w.1) v)
list-got (fault w) r e g = never cc

pub list-fault : (f : Field StringList) (r : StringListRead) {why : Refusal}
    → r ≡ string_list_read f → r ≡ list.Fault why → f ≡ fault why
list-fault (got m p) r e g = never cc
list-fault (fault w) r e g = cc

-- ---- numbers

-- a byte below 128 is a whole uvarint
pub uvarint-one : (s : List ℕ) (p : ℕ) → p < length s → get_or s p 0 < 128 → uvarint_at s p ≡ got (get_or s p 0) (p + 1)
unfolding read_uvarint read_groups
uvarint-one s p h l = uvarint-got s p (get_or s p 0) 1 (rw (drop-cons s p 0 h, lt-ltb (get_or s p 0) 128 l, read_groups))

pub varint-fits : (s : List ℕ) (p : ℕ) (x : ℤ) (q : ℕ) → varint_at s p ≡ got x q → mag x < 2 ^ 63
unfolding varint_at
varint-fits s p x q e = go (read_varint (drop p s)) refl e
  where
    go : (r : VarintRead) → read_varint (drop p s) ≡ r → varint_of p r ≡ got x q → mag x < 2 ^ 63
    go (v.Value y len) a b =
        let z : y ≡ x = cc in rw (← z) (taken-varint (drop p s) y len a).1
    go v.Short a b = let z : ◌≡◌ {A = ℕ} 0 1 = cc in absurd (omega arith)
    go v.BadVarint a b = let z : ◌≡◌ {A = ℕ} 0 1 = cc in absurd (omega arith)
