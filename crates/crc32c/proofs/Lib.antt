pub mod ByRows
