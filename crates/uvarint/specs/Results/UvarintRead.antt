-- What decoding a uvarint finds: its number and how many bytes it takes, or why there is none.
-- To be believed. Assumes nothing.
use Rattle.std.specs.Prelude.{ℕ, Result, Ok, Err}
use Rattle.uvarint.specs.declared.VarintError.{VarintError}
use Rattle.uvarint.specs.declared.VarintError.TheVariants as error

abbrev pub UvarintRead : Type 0
UvarintRead = Result (ℕ × ℕ) VarintError

pattern abbrev pub Value : ℕ → ℕ → UvarintRead
Value n len = Ok (n, len)

pattern abbrev pub Short : UvarintRead
Short = Err error.Short

pattern abbrev pub BadVarint : UvarintRead
BadVarint = Err error.BadVarint
