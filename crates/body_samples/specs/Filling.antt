-- FORMAT 11.5: what filling a list of samples from a body answers, and the list afterwards. Order
-- of refusals: EmptyBody, UnknownType, WrongKind, the first fault from the left, ListFull.
-- To be believed. Assumes nothing.
use Rattle.std.specs.Prelude.{cond, List, [], ◌∷◌, ◌++◌, map, ℕ, length, drop, leb}
use Rattle.wal_types.specs.declared.Refusal.TheVariants.{UnknownType, EmptyBody, ListFull, WrongKind}
use Rattle.wal_types.specs.Refusals.{number_of, place_of}
use Rattle.body_format.specs.declared.EntryView.{EntryView}
use Rattle.body_format.specs.Fields.{Field, got, fault}
use Rattle.body_format.specs.Entries.{Known, known, unknown, body_type_of, series, samples, tombstones, exemplars, metadata, histograms, Entry, entries}
use Rattle.body_format.specs.Reading.{view}
use Rattle.body_samples.specs.declared.Sample.{Sample}
use Rattle.body_samples.specs.Results.FillAnswer.{FillAnswer}
use Rattle.body_samples.specs.Results.FillAnswer.{Filled, Refused}

-- what the list holds of an entry that was read
abbrev pub sample_seen : EntryView → Sample
sample_seen v = record { id = v.id; time = v.time; bits = v.bits }

-- an entry's id, time and value, as reading the entry reports them
abbrev pub sample_of : Entry → Sample
sample_of e = record { id = (view e 0 0).id; time = (view e 0 0).time; bits = (view e 0 0).bits }

-- the entries of the samples body s, or the refusal
abbrev pub samples_known : Known → List ℕ → Field (List Entry)
samples_known (known samples) s = entries samples s
samples_known (known series) s = fault WrongKind
samples_known (known tombstones) s = fault WrongKind
samples_known (known exemplars) s = fault WrongKind
samples_known (known metadata) s = fault WrongKind
samples_known (known (histograms k)) s = fault WrongKind
samples_known unknown s = fault UnknownType

unfoldable pub samples_in : List ℕ → Field (List Entry)
samples_in [] = fault EmptyBody
samples_in (b ∷ s) = samples_known (body_type_of b) (b ∷ s)

-- the answer for a list that has room for so many samples
abbrev pub fill_answer : Field (List Entry) → ℕ → FillAnswer
fill_answer (got es p) room = cond (leb (length es) room) (Filled (length es)) (Refused ListFull)
fill_answer (fault why) room = Refused why

-- the status number of an answer (FORMAT 12.1), 0 where the list is filled; and its value, the
-- number of samples filled or the refusal's place
abbrev pub fill_number : FillAnswer → ℕ
fill_number (Filled n) = 0
fill_number (Refused why) = number_of why

abbrev pub fill_value : FillAnswer → ℕ
fill_value (Filled n) = n
fill_value (Refused why) = (place_of why).0

-- the list l afterwards: the samples in order, then the rest as it was; after a refusal as it was
abbrev pub list_after : Field (List Entry) → List Sample → List Sample
list_after (got es p) l = cond (leb (length es) (length l)) (map sample_of es ++ drop (length es) l) l
list_after (fault why) l = l
