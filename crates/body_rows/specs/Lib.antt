pub mod Results
pub mod Rows
pub mod Forms
pub mod Laws
pub mod Short
