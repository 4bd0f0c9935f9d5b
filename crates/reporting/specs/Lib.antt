pub mod Taken
pub mod Paths
pub mod Choices
