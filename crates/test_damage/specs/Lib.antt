pub mod Results
pub mod Fits
