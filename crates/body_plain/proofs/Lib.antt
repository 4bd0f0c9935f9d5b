pub mod Reading
pub mod Ending
pub mod Placing
