pub mod Adding
pub mod Sizing
pub mod Laying
