pub mod Reading
pub mod ShortRow
pub mod Ending
pub mod Placing
