-- Laws of an addition, for the entries here and for those of other crates.
pub mod Putting
pub mod Additions
