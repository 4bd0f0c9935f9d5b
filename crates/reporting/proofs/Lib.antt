pub mod Naming
pub mod Refusing
