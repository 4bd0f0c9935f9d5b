-- A segment by pages and in one slice: whatever is kept of the rows, and on the caller's numbers.
pub mod Pages
pub mod Slices
pub mod Numbers
