-- FORMAT 22.10: the name in a path is its last part, after its last `/`, and says the version.
-- To be believed. Assumes nothing.
use Rattle.std.specs.Prelude.{Ok, cond, List, ℕ, zero, suc, length, get_or, drop, eqb}
use Rattle.wal_types.specs.declared.Version.TheVariants.{One, Two}
use Rattle.wal_types.specs.Results.VersionFound.{VersionFound}
use Rattle.wal_types.specs.Results.VersionFound.{Known, Unknown}
use Rattle.name_format.specs.Results.ParseAnswer.{ParseAnswer}
use Rattle.name_format.specs.Results.ParseAnswer.{Refused}
use Rattle.name_format.specs.Names.{parse_name}

-- the place after the last `/`, which is 47, among the first n bytes
unfoldable pub after_slash : List ℕ → ℕ → ℕ
after_slash s zero = 0
after_slash s (suc n) = cond (eqb (get_or s n 0) 47) (suc n) (after_slash s n)

abbrev pub last_part : List ℕ → List ℕ
last_part s = drop (after_slash s (length s)) s

-- a name that is parsed has version 1 or 2
abbrev pub version_named : ParseAnswer → VersionFound
version_named (Ok r) = cond (eqb r.version 1) (Known One) (Known Two)
version_named (Refused why) = Unknown

unfoldable pub version_in : List ℕ → VersionFound
version_in s = version_named (parse_name (last_part s))
