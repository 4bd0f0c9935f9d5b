-- What the calls answer, in the words of the definitions: an `Ok`, a `Some` or an `Err` by the name
-- that the format has for it.
pub mod CheckAnswer
pub mod EntryPlace
pub mod EntryAnswer
pub mod StringAnswer
pub mod HistogramAnswer
pub mod SpanAnswer
pub mod BucketAnswer
