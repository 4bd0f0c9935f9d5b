-- FORMAT 24.3: strings that are taken out of another body for an entry that is added, and what such
-- an addition does (FORMAT 10).
-- To be believed. Assumes nothing.
use Rattle.std.specs.Prelude.{Bool, true, List, [], ℕ, ◌%◌, eqb}
use Rattle.body_format.specs.Fields.{Field, got, fault}
use Rattle.body_format.specs.Entries.{Entry}
use Rattle.body_format.specs.Building.{add, add_bytes}
use Rattle.body_format.specs.Calls.{BuildResult}

-- the strings, by how reading them there goes
abbrev pub strings_taken : Field (List (List ℕ)) → List (List ℕ)
strings_taken (got ts q) = ts
strings_taken (fault why) = []

-- BadList: one of them cannot be read, or their number is odd; in a body that was checked no list
-- is bad
abbrev pub bad_strings : ℕ → Field (List (List ℕ)) → Bool
bad_strings count (got ts q) = eqb (count % 2) 1
bad_strings count (fault why) = true

-- adding the entry that `make` makes of the strings, to the state (t, u) of a body in buffer b
abbrev pub adding : List ℕ → ℕ → ℕ → (List (List ℕ) → Entry) → ℕ → Field (List (List ℕ)) → BuildResult
adding b t u make count f = record {
  outcome = add b t u (make (strings_taken f)) (bad_strings count f);
  buffer = add_bytes (add b t u (make (strings_taken f)) (bad_strings count f)) b u (make (strings_taken f));
}
