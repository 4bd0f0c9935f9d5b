-- What decoding a signed varint finds, as for a uvarint.
-- To be believed. Assumes nothing.
use Rattle.std.specs.Prelude.{ℕ, ℤ, Result, Ok, Err}
use Rattle.uvarint.specs.declared.VarintError.{VarintError}
use Rattle.uvarint.specs.declared.VarintError.TheVariants as error

abbrev pub VarintRead : Type 0
VarintRead = Result (ℤ × ℕ) VarintError

pattern abbrev pub Value : ℤ → ℕ → VarintRead
Value x len = Ok (x, len)

pattern abbrev pub Short : VarintRead
Short = Err error.Short

pattern abbrev pub BadVarint : VarintRead
BadVarint = Err error.BadVarint
