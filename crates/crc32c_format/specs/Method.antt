-- How the code computes the checksum: definitions and laws that only the crates `crc32c`,
-- `crc32c_table` and `version_laws` cite, in no public contract.
pub mod Xor
pub mod Steps
pub mod Parts
pub mod Lists
pub mod Tables
pub mod Slicing
pub mod Fold
pub mod Sparse
pub mod Folding
pub mod Window
