pub mod Ascending
pub mod Places
