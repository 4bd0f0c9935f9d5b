-- A histogram, which has the place after it; or a fault.
-- To be believed. Assumes nothing.
use Rattle.std.specs.Prelude.{Result, Ok, Err}
use Rattle.wal_types.specs.declared.Refusal.{Refusal}
use Rattle.body_format.specs.declared.HistogramView.{HistogramView}

abbrev pub HistogramRead : Type 0
HistogramRead = Result HistogramView Refusal

pattern abbrev pub Got : HistogramView → HistogramRead
Got view = Ok view

pattern abbrev pub Fault : Refusal → HistogramRead
Fault why = Err why
