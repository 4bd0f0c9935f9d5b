pub mod Results
pub mod Filling
pub mod Rows
