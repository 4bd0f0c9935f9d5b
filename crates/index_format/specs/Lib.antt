pub mod Results
pub mod Index
pub mod Calls
pub mod Claims
