-- `plain_entry` meets its contract: a bad place, the end, or the entry of the type.
use Rattle.std.proofs.Common.{ℕ, ◌≡◌, List, arith, sym, ap, ◌∙◌}
use Rattle.wal_types.specs.Terms.{offset}
use Rattle.body_format.specs.Results.EntryPlace.{At}
use Rattle.body_format.specs.Entries.{entry_at}
use Rattle.body_format.specs.Reading.{place_or_end, entry_place, answer_entry}
use Rattle.body_format.proofs.Laws.Places.{place_end, place-before, bad_zero, bad-past, entry-there}
use Rattle.body_plain.specs.declared.PlainType.{PlainType}
use Rattle.body_plain.specs.Plain.{plain_in}
use Rattle.body_plain.specs.Laws.{plain-plain}
use Rattle.body_plain.proofs.Placing.{plain_here}
use Rattle.body_plain.proofs.plain_entry.Goals as goal
use Rattle.body_plain.proofs.plain_entry.Goals.{Else-at-body, Else-body-at}

pub returns-then-at-eq0 : goal.returns-then-at-eq0
returns-then-at-eq0 c = entry-there _ _ _ (bad_zero _ _ _ c.if-at-eq0.true)

pub returns-then-body-at : goal.returns-then-body-at
returns-then-body-at c = entry-there _ _ _ (bad-past _ _ _ c.if-body-at.true)

-- an entry, or the end, at this place
here : (c : Else-body-at) →
    let a = c.args in
    entry_place (plain_in a.plain) a.body.now a.at ≡ place_or_end a.body.now a.at
here c =
    plain_here _ _ _ (plain-plain c.args.plain)
    (omega (arith, c.if-at-eq0.false)) c.if-body-at.false

pub returns-then-at-body : goal.returns-then-at-body
returns-then-at-body c = entry-there _ _ _ (here (goal.at.returns-then-at-body c).Else-body-at ∙ place_end _ _ c.if-at-body.true)

-- an entry
found : (c : Else-at-body) →
    let a = c.args in
    entry_place (plain_in a.plain) a.body.now a.at ≡ At (offset a.at)
found c =
    plain_here (plain_in c.args.plain) c.args.body.now c.args.at (plain-plain c.args.plain) (omega (arith, c.if-at-eq0.false)) c.if-body-at.false
    ∙ place-before _ _ (omega (arith, c.if-body-at.false, c.if-at-body.false))

-- the entry of a type, told by its own reader
of-type : {k l : PlainType} (s : List ℕ) (p : ℕ) → k ≡ l → answer_entry (entry_at (plain_in l) s p) ≡ answer_entry (entry_at (plain_in k) s p)
of-type s p e = sym (ap (λ (k : PlainType). answer_entry (entry_at (plain_in k) s p)) e)

pub returns-in-Series : goal.returns-in-Series
returns-in-Series c =
    c.series_at.ensures ∙ of-type _ _ c.in-Series.is ∙ entry-there _ _ _ (found (goal.at.returns-in-Series c).Else-at-body)

pub returns-in-Tombstones : goal.returns-in-Tombstones
returns-in-Tombstones c =
    c.tombstone_at.ensures ∙ of-type _ _ c.in-Tombstones.is ∙ entry-there _ _ _ (found (goal.at.returns-in-Tombstones c).Else-at-body)

pub returns-in-Metadata : goal.returns-in-Metadata
returns-in-Metadata c =
    c.metadata_at.ensures ∙ of-type _ _ c.in-Metadata.is ∙ entry-there _ _ _ (found (goal.at.returns-in-Metadata c).Else-at-body)
