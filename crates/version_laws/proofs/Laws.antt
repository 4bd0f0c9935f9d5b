pub mod Checksums
pub mod Refusing
