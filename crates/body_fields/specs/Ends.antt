-- The place after a field or an entry, and going on from one field to the next.
-- To be believed. Assumes nothing.
use Rattle.std.specs.Prelude.{ℕ}
use Rattle.body_format.specs.Fields.{Field, got, fault}
use Rattle.body_fields.specs.Results.Place.{Place}
use Rattle.body_fields.specs.Results.Place.{At, Fault}

-- the place after a field or an entry, or the fault in it
abbrev pub end_of : {A : Type 0} → Field A → Place
end_of (got a next) = At next
end_of (fault why) = Fault why

-- on from a place, or the fault that was met on the way to it
abbrev pub onward : Place → (ℕ → Place) → Place
onward (At p) f = f p
onward (Fault why) f = Fault why
