-- The forms that the code's loops have: a string measured, a string and strings as they are
-- written.
-- Assumes nothing.
use Rattle.std.specs.Prelude.{List, [], ◌++◌, ℕ, zero, suc, ◌+◌, ◌/◌, length, Option, Some, None}
use Rattle.uvarint.specs.Uvarint.{uvarint}
use Rattle.body_format.specs.Fields.{Field, got, fault, StringField, string_at}
use Rattle.body_format.specs.Building.{string_bytes, strings_bytes}
use Rattle.body_copy.specs.Results.Measured.{Measured}
use Rattle.body_copy.specs.Results.Measured as measured
use Rattle.body_copy.specs.Results.Taken.{Taken}
use Rattle.body_copy.specs.Results.Taken as taken

-- the bytes that a string takes in the new body, and the place after it in the other
abbrev pub measured_of : Field StringField → Measured
measured_of (got t q) = measured.Got (length (string_bytes t.bytes)) q
measured_of (fault why) = measured.Bad

-- those that strings take, after n bytes
abbrev pub size_taken : ℕ → Field (List (List ℕ)) → Taken
size_taken n (got ts q) = taken.Size (n + length (strings_bytes ts))
size_taken n (fault why) = taken.Bad

-- the bytes of a string; none where it cannot be read
abbrev pub bytes_of : Field StringField → List ℕ
bytes_of (got t q) = string_bytes t.bytes
bytes_of (fault why) = []

-- the place after it, or the same again
abbrev pub after_of : ℕ → Field StringField → ℕ
after_of p (got t q) = q
after_of p (fault why) = p

-- the places after a string that is written at a place, and after the one that was read
abbrev pub copied_of : ℕ → Field StringField → Option (ℕ × ℕ)
copied_of place (got t q) = Some (place + length (string_bytes t.bytes), q)
copied_of place (fault why) = None

-- the bytes of k strings in a row, from place p of s on
unfoldable pub strings_from : ℕ → List ℕ → ℕ → List ℕ
strings_from zero s p = []
strings_from (suc k) s p = bytes_of (string_at s p) ++ strings_from k s (after_of p (string_at s p))

-- and before them half their number
unfoldable pub list_from : ℕ → List ℕ → ℕ → List ℕ
list_from k s p = uvarint (k / 2) ++ strings_from k s p
