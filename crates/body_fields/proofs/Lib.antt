pub mod Strings
pub mod Mapped
