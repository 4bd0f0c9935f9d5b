pub mod Results
pub mod Readings
pub mod Ends
pub mod Tally
pub mod Laws
pub mod EndLaws
