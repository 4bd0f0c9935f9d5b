pub mod Segments
pub mod Bodies
pub mod Histograms
