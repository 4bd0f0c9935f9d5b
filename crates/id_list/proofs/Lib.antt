pub mod Ordering
