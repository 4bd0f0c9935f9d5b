-- Laws of the definitions, from the fields to whole lists of calls.
pub mod Fields
pub mod Heads
pub mod Bounds
pub mod Kept
pub mod Histograms
pub mod Types
pub mod Lists
pub mod OfType
pub mod Faults
pub mod Strings
pub mod Entries
pub mod Additions
pub mod Bodies
pub mod Places
pub mod Elements
pub mod Walks
pub mod Built
