-- What reading a histogram answers: the histogram, the plain end of the body, or the refusal.
-- To be believed. Assumes nothing.
use Rattle.std.specs.Prelude.{Option, Some, None, Result, Ok, Err}
use Rattle.wal_types.specs.declared.Refusal.{Refusal}
use Rattle.body_format.specs.declared.HistogramView.{HistogramView}

abbrev pub HistogramAnswer : Type 0
HistogramAnswer = Result (Option HistogramView) Refusal

pattern abbrev pub Found : HistogramView → HistogramAnswer
Found view = Ok (Some view)

pattern abbrev pub End : HistogramAnswer
End = Ok None

pattern abbrev pub Refused : Refusal → HistogramAnswer
Refused why = Err why
