pub mod Results
pub mod Size
pub mod Claims
