-- `body_type` meets its contract: a body with no byte, or its first.
use Rattle.std.specs.Prelude.{◌≡◌, refl, List, [], ◌∷◌, ℕ, ◌<◌, length}
use Rattle.std.proofs.Common.{◌∙◌, arith, get_or}
use Rattle.body_format.specs.Entries.{body_type_of}
use Rattle.wal_types.specs.declared.Refusal.TheVariants.{EmptyBody}
use Rattle.body_reader.specs.Results.TypeRead as type
use Rattle.body_reader.specs.Layouts.{type_found, type_read}
use Rattle.body_reader.proofs.tags.body_type.Goals as goal

none : (s : List ℕ) → length s ≡ 0 → type.Refused EmptyBody ≡ type_read s
unfolding type_read
none [] h = refl
none (b ∷ s) h = absurd (omega arith)

some : (s : List ℕ) → 0 < length s → type_found (body_type_of (get_or s 0 0)) ≡ type_read s
unfolding type_read
some [] h = absurd (omega arith)
some (b ∷ s) h = refl

pub returns-in_default : goal.returns-in_default
returns-in_default c = none _ (omega arith)

pub returns : goal.returns
returns c = c.type_of.ensures ∙ some _ (omega arith)
