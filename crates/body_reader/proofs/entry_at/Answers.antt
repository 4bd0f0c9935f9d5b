-- `entry_at` meets its contract: its type, and then the entry of a body with rows or without.
use Rattle.std.specs.Prelude.{◌≡◌, List, ℕ}
use Rattle.std.proofs.Common.{sym, ap, ◌∙◌}
use Rattle.wal_types.proofs.Passing.{passed_on}
use Rattle.body_format.specs.Results.EntryAnswer.{Refused as EntryRefused}
use Rattle.body_format.specs.Entries.{known}
use Rattle.body_format.specs.Reading.{entry_known, read_entry}
use Rattle.body_reader.specs.declared.tags.BodyLayout.{BodyLayout}
use Rattle.body_reader.specs.Results.TypeRead.{TypeRead}
use Rattle.body_reader.specs.Results.TypeRead as type
use Rattle.body_reader.specs.Layouts.{type_in, type_read}
use Rattle.body_reader.proofs.Types.{by_type, entry_type}
use Rattle.body_reader.proofs.entry_at.Goals as goal

known-entry : (s : List ℕ) (p : ℕ) {r : TypeRead} {k l : BodyLayout} → r ≡ type_read s → r ≡ type.Known k → k ≡ l
    → read_entry s p ≡ entry_known (known (type_in l)) s p
known-entry s p e g h =
    entry_type s p ∙ ap (by_type EntryRefused (λ k. entry_known (known k) s p)) (sym e ∙ g ∙ ap type.Known h)

pub returns-in-Rows : goal.returns-in-Rows
returns-in-Rows c =
    c.row_entry.ensures
    ∙ sym (known-entry _ _ c.body_type.ensures c.in_ok-layout.was c.in-Rows.is)

pub returns-in-Plain : goal.returns-in-Plain
returns-in-Plain c =
    c.plain_entry.ensures
    ∙ sym (known-entry _ _ c.body_type.ensures c.in_ok-layout.was c.in-Plain.is)

pub returns-in-Histograms : goal.returns-in-Histograms
returns-in-Histograms c =
    c.histogram_as_entry.ensures
    ∙ sym (known-entry _ _ c.body_type.ensures c.in_ok-layout.was c.in-Histograms.is)

pub returns-in_err-layout : goal.returns-in_err-layout
returns-in_err-layout c =
    passed_on c.from_residual.result _ c.from_residual.ensures.1
    ∙ sym (entry_type _ _ ∙ ap (by_type EntryRefused (λ k. entry_known (known k) c.args.body.now c.args.place.0)) (sym c.body_type.ensures ∙ c.in_err-layout.was))
