-- What starting a body or adding an entry hands back, for an outcome of body_format's definitions.
-- To be believed. Assumes nothing.
use Rattle.std.specs.Prelude.{ℕ}
use Rattle.wal_types.specs.Terms.{offset}
use Rattle.body_format.specs.Building.{Outcome, used, refused}
use Rattle.body_builder.specs.Results.Added.{Added}
use Rattle.body_builder.specs.Results.Added.{Next, Refused}

-- of a body of tag t: the next state, which is its tag and the bytes used, or the refusal
abbrev pub added_of : ℕ → Outcome → Added
added_of t (used n) = Next (record { tag = t; used = offset n })
added_of t (refused why) = Refused why
