-- What the calls answer, in the words of the definitions: an `Ok`, a `Some` or an `Err` by the name
-- that the format has for it.
pub mod RowRead
pub mod HeadRead
