pub mod Results
pub mod Varint
pub mod VarintLaws
