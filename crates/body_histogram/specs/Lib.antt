pub mod Results
pub mod Forms
