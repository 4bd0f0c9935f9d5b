pub mod Examples
pub mod Histograms
